use Rattle.argo_model.proofs.Worked.Memory.{store_across_pages}
use Rattle.argo_model.proofs.examples.store_across_pages.Goals as goal

pub returns : goal.returns
returns c = store_across_pages
