use Rattle.argo_abi.proofs.StructureLaws.{addr_back}
use Rattle.argo_abi.proofs.addr.get_addr.Goals as goal

pub returns-clause-back : goal.returns-clause-back
returns-clause-back c = rw (c.read_addr.ensures) (addr_back c.args.b.now c.fits-b c.told-b)
