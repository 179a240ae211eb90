use Rattle.std.proofs.Common.{◌∙◌, ap, refl, sym}
use Rattle.fr_whole.specs.Pages.{help_lines, help_text, page_text}
use Rattle.fr_whole.proofs.pages.text_of.Goals as goal

pub returns-in-Help : goal.returns-in-Help
unfolding help_text help_lines
returns-in-Help c = refl ∙ sym (ap page_text c.in-Help.is)
