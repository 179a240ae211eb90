-- Each page ends with a line feed.
use Rattle.std.proofs.Common.{refl}
use Rattle.std.specs.Prelude.{codes}
use Rattle.fr_base.specs.Device.{IsEnded}
use Rattle.fr_whole.specs.Pages.{help_lines, help_text, page_text, version_text}
use Rattle.fr_whole.specs.declared.pages.Page.{Page}
use Rattle.fr_whole.specs.declared.pages.Page.TheVariants.{Help, Version}

pub page_is_ended : (asked : Page) → IsEnded (page_text asked)
unfolding help_text version_text
page_is_ended Help = record { front = help_lines; ended = refl }
page_is_ended Version = record { front = codes "flexray 0.2.0"; ended = refl }
