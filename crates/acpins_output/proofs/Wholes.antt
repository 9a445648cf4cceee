-- What is shown of a path, where the machine has the body there alone.
use Rattle.std.proofs.Common.{ℕ, List, [], Option, Some, None, sym, ap, subst, ◌∙◌}
use Rattle.std.specs.Prelude.{unwrap_or, ◌++◌}
use Rattle.acpi_name.specs.Names.{Segment}
use Rattle.acpi_space.specs.Lookups.{Lookup}
use Rattle.acpi_declare.specs.Links.{Links}
use Rattle.acpi_declare.specs.Namespace.{Namespace}
use Rattle.acpi_body.specs.Bodies.{BodyTree}
use Rattle.acpi_text.specs.Lines.{line_text}
use Rattle.acpi_order.specs.Machines.{Machine}
use Rattle.acpi_machine.specs.OneBody.{IsMachineAt}
use Rattle.acpins_output.specs.Shown.{IsBodyText, ShowsOrNone}

pub shows_whole : (depth : ℕ) (tables : List (List ℕ)) (path : List Segment) (m : Machine) (text : Option (List ℕ)) → (at : IsMachineAt depth tables path m)
    → ShowsOrNone depth tables m path text → ShowsOrNone depth tables at.whole path text
shows_whole depth tables path m None at h = sym (ap (λ (l : Namespace). l path) at.objects_are) ∙ h
shows_whole depth tables path m (Some text) at h = record {
  object = h.object;
  there = sym (ap (λ (l : Namespace). l path) at.objects_are) ∙ h.there;
  body = h.body;
  is_body = subst (λ (b : Option BodyTree). IsBodyText depth tables path b h.body) at.body_is h.is_body;
  text_is = h.text_is ∙ ap (λ (l : Lookup Links). line_text path h.object (unwrap_or (l path) []) ++ h.body) at.links_are;
}
