use Rattle.argo_abi.proofs.StructureLaws.{unregister_ring_back}
use Rattle.argo_abi.proofs.unregister_ring.get_unregister_ring.Goals as goal

pub returns-clause-back : goal.returns-clause-back
returns-clause-back c = rw (c.read_u32.ensures, c.read_u16.ensures, c.read_u16-2.ensures) (unregister_ring_back c.args.b.now c.fits-b c.told-b)
