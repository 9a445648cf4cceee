use Rattle.std.proofs.Common.{◌∙◌, List, ap, refl}
use Rattle.acpi_name.specs.Names.{Segment}
use Rattle.acpi_tree.specs.Objects.{root_object}
use Rattle.acpi_space.specs.Lookups.{singleton, union, nothing}
use Rattle.acpi_pass.specs.Namespace.{Namespace, namespace_of}
use Rattle.acpi_pass.proofs.Unions.{namespace-empty, laid_on, still_free, root_first}
use Rattle.acpi_pass.proofs.predefined.predefined_space.Goals as goal

pub put-requires : goal.put-requires
put-requires g c = ap (λ (m : Namespace). m c.root.result) (ap namespace_of c.new-objects.ensures ∙ namespace-empty)

pub put_named-requires-clause-free : goal.put_named-requires-clause-free
put_named-requires-clause-free g c =
    root_first _ _ _ _ _ c.in_ok-put.ensures.objects (ap namespace_of c.new-objects.ensures ∙ namespace-empty) c.root.ensures refl

pub put_named-requires-2-clause-free : goal.put_named-requires-2-clause-free
put_named-requires-2-clause-free g c =
    still_free _ _ _ _ _ c.in_ok-put_named.ensures refl
    (root_first _ _ _ _ _ c.in_ok-put.ensures.objects (ap namespace_of c.new-objects.ensures ∙ namespace-empty) c.root.ensures refl)

pub put_named-requires-3-clause-free : goal.put_named-requires-3-clause-free
put_named-requires-3-clause-free g c =
    still_free _ _ _ _ _ c.in_ok-put_named-2.ensures refl
    (still_free _ _ _ _ _ c.in_ok-put_named.ensures refl
    (root_first _ _ _ _ _ c.in_ok-put.ensures.objects (ap namespace_of c.new-objects.ensures ∙ namespace-empty) c.root.ensures refl))

pub put_named-requires-4-clause-free : goal.put_named-requires-4-clause-free
put_named-requires-4-clause-free g c =
    still_free _ _ _ _ _ c.in_ok-put_named-3.ensures refl
    (still_free _ _ _ _ _ c.in_ok-put_named-2.ensures refl
    (still_free _ _ _ _ _ c.in_ok-put_named.ensures refl
    (root_first _ _ _ _ _ c.in_ok-put.ensures.objects (ap namespace_of c.new-objects.ensures ∙ namespace-empty) c.root.ensures refl)))

pub put_named-requires-5-clause-free : goal.put_named-requires-5-clause-free
put_named-requires-5-clause-free g c =
    still_free _ _ _ _ _ c.in_ok-put_named-4.ensures refl
    (still_free _ _ _ _ _ c.in_ok-put_named-3.ensures refl
    (still_free _ _ _ _ _ c.in_ok-put_named-2.ensures refl
    (still_free _ _ _ _ _ c.in_ok-put_named.ensures refl
    (root_first _ _ _ _ _ c.in_ok-put.ensures.objects (ap namespace_of c.new-objects.ensures ∙ namespace-empty) c.root.ensures refl))))

pub put_named-requires-6-clause-free : goal.put_named-requires-6-clause-free
put_named-requires-6-clause-free g c =
    still_free _ _ _ _ _ c.in_ok-put_named-5.ensures refl
    (still_free _ _ _ _ _ c.in_ok-put_named-4.ensures refl
    (still_free _ _ _ _ _ c.in_ok-put_named-3.ensures refl
    (still_free _ _ _ _ _ c.in_ok-put_named-2.ensures refl
    (still_free _ _ _ _ _ c.in_ok-put_named.ensures refl
    (root_first _ _ _ _ _ c.in_ok-put.ensures.objects (ap namespace_of c.new-objects.ensures ∙ namespace-empty) c.root.ensures refl)))))

pub put_named-requires-7-clause-free : goal.put_named-requires-7-clause-free
put_named-requires-7-clause-free g c =
    still_free _ _ _ _ _ c.in_ok-put_named-6.ensures refl
    (still_free _ _ _ _ _ c.in_ok-put_named-5.ensures refl
    (still_free _ _ _ _ _ c.in_ok-put_named-4.ensures refl
    (still_free _ _ _ _ _ c.in_ok-put_named-3.ensures refl
    (still_free _ _ _ _ _ c.in_ok-put_named-2.ensures refl
    (still_free _ _ _ _ _ c.in_ok-put_named.ensures refl
    (root_first _ _ _ _ _ c.in_ok-put.ensures.objects (ap namespace_of c.new-objects.ensures ∙ namespace-empty) c.root.ensures refl))))))

pub put_named-requires-8-clause-free : goal.put_named-requires-8-clause-free
put_named-requires-8-clause-free g c =
    still_free _ _ _ _ _ c.in_ok-put_named-7.ensures refl
    (still_free _ _ _ _ _ c.in_ok-put_named-6.ensures refl
    (still_free _ _ _ _ _ c.in_ok-put_named-5.ensures refl
    (still_free _ _ _ _ _ c.in_ok-put_named-4.ensures refl
    (still_free _ _ _ _ _ c.in_ok-put_named-3.ensures refl
    (still_free _ _ _ _ _ c.in_ok-put_named-2.ensures refl
    (still_free _ _ _ _ _ c.in_ok-put_named.ensures refl
    (root_first _ _ _ _ _ c.in_ok-put.ensures.objects (ap namespace_of c.new-objects.ensures ∙ namespace-empty) c.root.ensures refl)))))))

pub put_named-requires-9-clause-free : goal.put_named-requires-9-clause-free
put_named-requires-9-clause-free g c =
    still_free _ _ _ _ _ c.in_ok-put_named-8.ensures refl
    (still_free _ _ _ _ _ c.in_ok-put_named-7.ensures refl
    (still_free _ _ _ _ _ c.in_ok-put_named-6.ensures refl
    (still_free _ _ _ _ _ c.in_ok-put_named-5.ensures refl
    (still_free _ _ _ _ _ c.in_ok-put_named-4.ensures refl
    (still_free _ _ _ _ _ c.in_ok-put_named-3.ensures refl
    (still_free _ _ _ _ _ c.in_ok-put_named-2.ensures refl
    (still_free _ _ _ _ _ c.in_ok-put_named.ensures refl
    (root_first _ _ _ _ _ c.in_ok-put.ensures.objects (ap namespace_of c.new-objects.ensures ∙ namespace-empty) c.root.ensures refl))))))))

pub returns : goal.returns
returns g c =
    let start = ap namespace_of c.new-objects.ensures ∙ namespace-empty in
    let root = laid_on _ _ _ _ c.in_ok-put.ensures.objects start ∙ ap (λ (p : List Segment). union nothing (singleton p root_object)) c.root.ensures in
    laid_on _ _ _ _ c.in_ok-put_named-9.ensures
    (laid_on _ _ _ _ c.in_ok-put_named-8.ensures
    (laid_on _ _ _ _ c.in_ok-put_named-7.ensures
    (laid_on _ _ _ _ c.in_ok-put_named-6.ensures
    (laid_on _ _ _ _ c.in_ok-put_named-5.ensures
    (laid_on _ _ _ _ c.in_ok-put_named-4.ensures
    (laid_on _ _ _ _ c.in_ok-put_named-3.ensures
    (laid_on _ _ _ _ c.in_ok-put_named-2.ensures
    (laid_on _ _ _ _ c.in_ok-put_named.ensures root))))))))
