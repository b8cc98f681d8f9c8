use Rattle.argo_abi.proofs.StructureLaws.{send_addr_back}
use Rattle.argo_abi.proofs.send_addr.get_send_addr.Goals as goal

pub returns-clause-back : goal.returns-clause-back
returns-clause-back c = rw (c.read_addr.ensures, c.read_addr-2.ensures) (send_addr_back c.args.b.now c.fits-b c.told-b)
