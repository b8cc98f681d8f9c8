use Rattle.argo_laws.proofs.BesideLaws as laws
use Rattle.argo_laws.proofs.beside.equal_words_start_clean.Goals as goal

pub returns : goal.returns
returns c = laws.starts_clean_where_equal
