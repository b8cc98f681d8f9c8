use Rattle.argo_abi.proofs.StructureLaws.{message_head_back}
use Rattle.argo_abi.proofs.message_head.get_message_head.Goals as goal

pub returns-clause-back : goal.returns-clause-back
returns-clause-back c = rw (c.read_u32.ensures, c.read_addr.ensures, c.read_u32-2.ensures) (message_head_back c.args.b.now c.fits-b c.told-b)
