use Rattle.seal_text.proofs.TextLaw.{same_texts}
use Rattle.seal_text.proofs.laws.law_same_texts.Goals as goal

pub returns : goal.returns
returns c = same_texts
