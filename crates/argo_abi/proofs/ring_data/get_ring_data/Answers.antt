use Rattle.argo_abi.proofs.StructureLaws.{ring_data_back}
use Rattle.argo_abi.proofs.ring_data.get_ring_data.Goals as goal

pub returns-clause-back : goal.returns-clause-back
returns-clause-back c = rw (c.read_u32.ensures, c.read_u32-2.ensures) (ring_data_back c.args.b.now c.fits-b c.told-b)
