use Rattle.argo_abi.proofs.StructureLaws.{register_ring_back}
use Rattle.argo_abi.proofs.register_ring.get_register_ring.Goals as goal

pub returns-clause-back : goal.returns-clause-back
returns-clause-back c = rw (c.read_u32.ensures, c.read_u16.ensures, c.read_u16-2.ensures, c.read_u32-2.ensures) (register_ring_back c.args.b.now c.fits-b c.told-b)
