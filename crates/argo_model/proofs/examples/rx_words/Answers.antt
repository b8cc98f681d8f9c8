use Rattle.argo_model.proofs.Worked.Puts.{rx_words}
use Rattle.argo_model.proofs.examples.rx_words.Goals as goal

pub returns : goal.returns
returns c = rx_words
