use Rattle.argo_abi.proofs.StructureLaws.{iov_back}
use Rattle.argo_abi.proofs.iov.get_iov.Goals as goal

pub returns-clause-back : goal.returns-clause-back
returns-clause-back c = rw (c.read_u64.ensures, c.read_u32.ensures, c.read_u32-2.ensures) (iov_back c.args.b.now c.fits-b c.told-b)
