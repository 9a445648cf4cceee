-- Descriptors read one after the other.
use Rattle.std.proofs.Common.{◌≡◌, ℕ, ◌+◌, ◌-◌, ◌≤◌, true, false, List, [], ◌∷◌, ◌++◌, length, drop, Option, Some, None, refl, sym, ap, ◌∙◌, append_assoc, length-append, arith}
use Rattle.std.specs.Prelude.{IfSome, IfNone}
use Rattle.std.specs.List.{All, flat_map}
use Rattle.std.proofs.lemmas.List.{flat_map_more, drop_at}
use Rattle.std.proofs.lemmas.List.Elements.{All-push, All-nil}
use Rattle.acpi_resources.specs.Descriptors.{template_bytes, descriptor_bytes, is_end_tag, IsProper}
use Rattle.acpi_resources.specs.Templates.{HasEndTag, HasNoEndTag, EndsAs, Decodes}
use Rattle.acpi_resources.specs.steps.TemplateRead.{Splits}
use Rattle.std.proofs.Math.Seq.{drop-length}
use Rattle.acpi_resources.specs.declared.descriptor.Descriptor.{Descriptor}
use Rattle.acpi_resources.specs.declared.template.TemplateStop.{TemplateStop}

-- none is read yet
pub starts : (bytes : List ℕ) → Splits [] bytes bytes
starts bytes = record { spelled = refl; proper = All-nil IsProper }

-- one more is read
pub goes_on : (ds : List Descriptor) (d : Descriptor) (left rest bytes : List ℕ) → Splits ds left bytes
    → left ≡ descriptor_bytes d ++ rest → IsProper d → Splits (ds ++ d ∷ []) rest bytes
goes_on ds d left rest bytes so e p =
    let more : template_bytes ds ++ descriptor_bytes d ≡ template_bytes (ds ++ d ∷ []) = flat_map_more descriptor_bytes [] ds d in
    record {
      spelled = so.spelled ∙ ap (λ (xs : List ℕ). template_bytes ds ++ xs) e ∙ sym (append_assoc (template_bytes ds) (descriptor_bytes d) rest) ∙ ap (λ (xs : List ℕ). xs ++ rest) more;
      proper = All-push IsProper ds d so.proper p;
    }

-- it is the end tag
pub closes : (ds : List Descriptor) (d : Descriptor) → HasNoEndTag ds → is_end_tag d ≡ true → HasEndTag (ds ++ d ∷ [])
closes ds d o e = record { before = ds; last = d; whole = refl; ends = e; none_before = o }

-- it is no end tag
pub stays : (ds : List Descriptor) (d : Descriptor) → HasNoEndTag ds → is_end_tag d ≡ false → HasNoEndTag (ds ++ d ∷ [])
stays ds d o e = All-push (λ (x : Descriptor). is_end_tag x ≡ false) ds d o e

-- what is left stands behind what is read
left_is : (front left bytes : List ℕ) → bytes ≡ front ++ left → drop (length bytes - length left) bytes ≡ left
left_is front left bytes e =
    let len : length bytes ≡ length front + length left = ap length e ∙ length-append front left in
    let place : length front ≡ length bytes - length left = omega arith in
    ap (drop (length bytes - length left)) e ∙ drop_at front left (length bytes - length left) place

-- where reading stops
pub decoded : (ds : List Descriptor) (left bytes : List ℕ) (stop : Option TemplateStop) → Splits ds left bytes → EndsAs stop ds left
    → IfSome stop (λ s. s.place ≡ length bytes - length left) → IfNone stop (left ≡ []) → Decodes ds stop bytes
decoded ds left bytes None so ends place none =
    let empty : drop (length bytes) bytes ≡ left = drop-length bytes ∙ sym none in
    record { spelled = rw empty (sym so.spelled); proper = so.proper; ends = rw empty ends }
decoded ds left bytes (Some s) so ends place none =
    let behind : drop s.place bytes ≡ left = ap (λ (n : ℕ). drop n bytes) place ∙ left_is (template_bytes ds) left bytes so.spelled in
    record { spelled = rw behind (sym so.spelled); proper = so.proper; ends = rw behind ends }
