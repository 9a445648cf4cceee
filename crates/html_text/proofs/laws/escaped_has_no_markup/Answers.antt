use Rattle.html_text.proofs.Escape.{escaped-no_markup}
use Rattle.html_text.proofs.laws.escaped_has_no_markup.Goals as goal

pub returns : goal.returns
returns c = escaped-no_markup
