use Rattle.argo_abi.proofs.StructureLaws.{ring_head_back}
use Rattle.argo_abi.proofs.ring_head.get_ring_head.Goals as goal

pub returns-clause-back : goal.returns-clause-back
returns-clause-back c =
    rw (c.copy_from_slice.ensures.after, c.split_at.ensures.back, c.read_u32.ensures, c.read_u32-2.ensures)
    (ring_head_back c.args.b.now c.fits-b c.told-b)
