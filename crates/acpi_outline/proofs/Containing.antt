-- What a package holds may become any other bytes, as many, and no node around it changes.
use Rattle.std.proofs.Common.{◌≡◌, ℕ, suc, ◌-◌, ◌+◌, ◌≤◌, List, [], Some, ◌++◌, length, refl, sym, ap, subst, ◌∙◌, append_assoc, arith}
use Rattle.std.proofs.lemmas.List.{length-append}
use Rattle.acpi_table.specs.PkgLength.{SpellsPkgLength}
use Rattle.acpi_code.specs.Spelling.{Packs}
use Rattle.acpi_outline.specs.declared.form.PackedForm.{PackedForm}
use Rattle.acpi_outline.specs.Nodes.{NodeTree, plain, holds, closed, package_lost, NodeTrees, node, form_of, form_bytes, data_lost, name_lost, holds_fields}
use Rattle.acpi_outline.specs.Rules.{Rules, after, after_all}
use Rattle.acpi_outline.specs.Outline.{IsNode, AreNodes}
use Rattle.acpi_outline.specs.Contained.{Around, first, behind, inside, put_at, known_at, package_form, PackagesContain}
use Rattle.acpi_outline.proofs.Complete.{packed, packed_complete}
use Rattle.acpi_outline.proofs.One.{pack_longer, node_of}

-- the same of any list
record Holding {S : Type 0} (r : Rules S) (left end : ℕ) (known : S) (bytes : List ℕ) (c : Around) (place : ℕ) (n : NodeTree) (ns : NodeTrees) (form : PackedForm) : Type 0 where
  before : List ℕ
  content : List ℕ
  packed_there : List ℕ
  rest : List ℕ
  packs : Packs (form_bytes form) content packed_there
  at : place ≡ (end - length bytes) + length before
  whole : bytes ≡ before ++ (packed_there ++ rest)
  changed : (other : List ℕ) → length other ≡ length content → NodeTree
  stays : (other : List ℕ) (same : length other ≡ length content) → after r place (known_at r known c) (changed other same) ≡ after r place (known_at r known c) n
      → AreNodes r left end known (put_at c place (changed other same) ns) (before ++ ((form_bytes form ++ (packs.len ++ other)) ++ rest))

-- ---- what a package holds

abbrev PackageOf : PackedForm → List ℕ → Type 0
PackageOf form bytes = (content : List ℕ) × Packs (form_bytes form) content bytes

package_of : {S : Type 0} (r : Rules S) (level place end : ℕ) (known : S) (n : NodeTree) (a : List ℕ) (form : PackedForm) → package_form n ≡ Some form → IsNode r level place end known n a → PackageOf form a
package_of r level place end known (plain p) a form is h = absurd cc
package_of r level place end known (data_lost f why) a form is h = absurd cc
package_of r level place end known (name_lost n f why) a form is h = absurd cc
package_of r level place end known (holds f ns) a form is h = let same : form_of f ≡ form = cc in subst (λ k. PackageOf k a) same (h.0 ++ h.1, h.5)
package_of r level place end known (holds_fields f es) a form is h = let same : form_of f ≡ form = cc in subst (λ k. PackageOf k a) same (h.0 ++ h.1, h.5)
package_of r level place end known (closed f content) a form is h = let same : form_of f ≡ form = cc in subst (λ k. PackageOf k a) same (h.0 ++ content, h.3)
package_of r level place end known (package_lost f why) a form is h = let same : f ≡ form = cc in subst (λ k. PackageOf k a) same (h.0, h.2)

-- the same package with other content
repacked : (op content other a : List ℕ) → length other ≡ length content → (p : Packs op content a) → Packs op other (op ++ (p.len ++ other))
repacked op content other a same p = record { len = p.len; spells_len = subst (λ k. SpellsPkgLength (length p.len + k) p.len) (sym same) p.spells_len; whole = refl }

-- ---- the state behind what stands around

state_kept : {S : Type 0} (r : Rules S) (c : Around) (known : S) (place : ℕ) (n m : NodeTree) (ns : NodeTrees) → after r place (known_at r known c) m ≡ after r place (known_at r known c) n
    → after_all r known (put_at c place m ns) ≡ after_all r known (put_at c place n ns)
state_kept r first known place n m ns e = ap (λ k. after_all r k ns) e
state_kept r (behind p q c) known place n m ns e = state_kept r c (after r p known q) place n m ns e
state_kept r (inside p f c ms) known place n m ns e = ap (λ k. after_all r (r.leave k) ms) (state_kept r c (r.enter known p f) place n m ns e)

-- as many bytes stand there
same_size : (u op len x y v : List ℕ) → length x ≡ length y → length (u ++ ((op ++ (len ++ x)) ++ v)) ≡ length (u ++ ((op ++ (len ++ y)) ++ v))
same_size u op len x y v e =
    omega (arith, length-append u ((op ++ (len ++ x)) ++ v), length-append u ((op ++ (len ++ y)) ++ v), length-append (op ++ (len ++ x)) v, length-append (op ++ (len ++ y)) v, length-append op (len ++ x), length-append op (len ++ y), length-append len x, length-append len y)

-- .. with a package in them
held_size : (bytes u op content a v other : List ℕ) (p : Packs op content a) → bytes ≡ u ++ (a ++ v) → length other ≡ length content → length (u ++ ((op ++ (p.len ++ other)) ++ v)) ≡ length bytes
held_size bytes u op content a v other p whole same =
    same_size u op p.len other content v same ∙ ap (λ (l : List ℕ). length (u ++ (l ++ v))) (sym p.whole) ∙ ap length (sym whole)

contain : {S : Type 0} (r : Rules S) (c : Around) (left end : ℕ) (known : S) (bytes : List ℕ) (place : ℕ) (n : NodeTree) (ns : NodeTrees) (form : PackedForm) → length bytes ≤ end
    → AreNodes r left end known (put_at c place n ns) bytes → package_form n ≡ Some form → Holding r left end known bytes c place n ns form
contain {S} r first left end known bytes place n ns form fits (a, b, level, levels, at, is_node, are, whole) is =
    let p = package_of r level place (end - length b) known n a form is is_node in
    let op = form_bytes form in
    let len = p.1.len in
    record {
      before = [];
      content = p.0;
      packed_there = a;
      rest = b;
      packs = p.1;
      at = omega (arith, at);
      whole = whole;
      changed = λ other same. packed r level (end - length ((op ++ (len ++ other)) ++ b)) (end - length b) known form other;
      stays = λ other same stays.
          let d = op ++ (len ++ other) in
          let m = packed r level (end - length (d ++ b)) (end - length b) known form other in
          let size : length (d ++ b) ≡ length bytes = held_size bytes [] op p.0 a b other p.1 whole same in
          let g = node_of r (suc level) known end (d ++ b) (m, b) (packed_complete r level known end form other d b (repacked op p.0 other a same p.1)) in
          let place_is : place ≡ end - length (d ++ b) = rw size at in
          let here : IsNode r g.inside place (end - length b) known m g.front = subst (λ q. IsNode r g.inside q (end - length b) known m g.front) (sym place_is) g.is_node in
          let there : AreNodes r left end (after r place known m) ns b = rw stays are in
          (g.front, b, g.inside, levels ∙ g.levels, place_is, here, there, g.whole);
    }
contain r (behind q k c) left end known bytes place n ns form fits (a, b, level, levels, at, is_node, are, whole) is =
    let sizes : length bytes ≡ length a + length b = ap length whole ∙ length-append a b in
    let h = contain r c left end (after r q known k) b place n ns form (omega arith) are is in
    let op = form_bytes form in
    record {
      before = a ++ h.before;
      content = h.content;
      packed_there = h.packed_there;
      rest = h.rest;
      packs = h.packs;
      at = omega (arith, h.at, length-append a h.before);
      whole = whole ∙ ap (λ (l : List ℕ). a ++ l) h.whole ∙ sym (append_assoc a h.before (h.packed_there ++ h.rest));
      changed = h.changed;
      stays = λ other same stays.
          let e = (op ++ (h.packs.len ++ other)) ++ h.rest in
          let d = h.before ++ e in
          let size : length d ≡ length b = held_size b h.before op h.content h.packed_there h.rest other h.packs h.whole same in
          let all : length (a ++ d) ≡ length bytes = omega (arith, length-append a d) in
          let here : IsNode r level q (end - length d) known k a = rw size is_node in
          let place_is : q ≡ end - length (a ++ d) = rw all at in
          let made : AreNodes r left end known (node q k (put_at c place (h.changed other same) ns)) (a ++ d) = (a, d, level, levels, place_is, here, h.stays other same stays, refl) in
          subst (AreNodes r left end known (node q k (put_at c place (h.changed other same) ns))) (sym (append_assoc a h.before e)) made;
    }
contain {S} r (inside q f c ms) left end known bytes place n ns form fits (a, b, level, levels, at, (x, y, is_fixed, goes, inner, packs), are, whole) is =
    let front = form_bytes (form_of f) in
    let op = form_bytes form in
    let sizes : length bytes ≡ length a + length b = ap length whole ∙ length-append a b in
    let inner_sizes : length a ≡ length front + (length packs.len + (length x + length y)) = ap length packs.whole ∙ length-append front (packs.len ++ (x ++ y)) ∙ ap (λ k. length front + k) (length-append packs.len (x ++ y) ∙ ap (λ k. length packs.len + k) (length-append x y)) in
    let h = contain r c level (end - length b) (r.enter known q f) y place n ns form (omega arith) inner is in
    let lead = front ++ (packs.len ++ x) in
    let lead_size : length lead ≡ length front + (length packs.len + length x) = length-append front (packs.len ++ x) ∙ ap (λ k. length front + k) (length-append packs.len x) in
    record {
      before = lead ++ h.before;
      content = h.content;
      packed_there = h.packed_there;
      rest = h.rest ++ b;
      packs = h.packs;
      at = omega (arith, h.at, length-append lead h.before);
      whole = whole ∙ ap (λ (l : List ℕ). l ++ b) (packs.whole ∙ ap (λ (l : List ℕ). front ++ (packs.len ++ (x ++ l))) h.whole) ∙ simp append_assoc;
      changed = h.changed;
      stays = λ other same stays.
          let d = h.before ++ ((op ++ (h.packs.len ++ other)) ++ h.rest) in
          let size : length d ≡ length y = held_size y h.before op h.content h.packed_there h.rest other h.packs h.whole same in
          let longs : length (x ++ d) ≡ length (x ++ y) = omega (arith, length-append x d, length-append x y) in
          let e = front ++ (packs.len ++ (x ++ d)) in
          let repack : Packs front (x ++ d) e = repacked front (x ++ y) (x ++ d) a longs packs in
          let whole_size : length (e ++ b) ≡ length bytes = held_size bytes [] front (x ++ y) a b (x ++ d) packs whole longs in
          let held : NodeTrees = put_at c place (h.changed other same) ns in
          let here : IsNode r level q (end - length b) known (holds f held) e = (x, d, is_fixed, goes, h.stays other same stays, repack) in
          let place_is : q ≡ end - length (e ++ b) = rw whole_size at in
          let state : after r q known (holds f held) ≡ after r q known (holds f (put_at c place n ns)) = ap r.leave (state_kept r c (r.enter known q f) place n (h.changed other same) ns stays) in
          let there : AreNodes r left end (after r q known (holds f held)) ms b = rw state are in
          let made : AreNodes r left end known (node q (holds f held) ms) (e ++ b) = (e, b, level, levels, place_is, here, there, refl) in
          subst (AreNodes r left end known (node q (holds f held) ms)) (simp append_assoc) made;
    }

pub packages_contain : {S : Type 0} (r : Rules S) → PackagesContain r
packages_contain r known depth code c place n ns form h is =
    let k = contain r c depth (length code) known code place n ns form (omega arith) h is in
    let op = form_bytes form in
    let sizes : (other : List ℕ) → length other ≡ length k.content → length code ≡ length (k.before ++ ((op ++ (k.packs.len ++ other)) ++ k.rest)) =
    λ other same. sym (held_size code k.before op k.content k.packed_there k.rest other k.packs k.whole same) in
    record {
      before = k.before;
      content = k.content;
      packed = k.packed_there;
      after_it = k.rest;
      packs = k.packs;
      at = omega (arith, k.at);
      whole = k.whole;
      changed = k.changed;
      stays = λ other same stays. subst (λ e. AreNodes r depth e known (put_at c place (k.changed other same) ns) (k.before ++ ((op ++ (k.packs.len ++ other)) ++ k.rest))) (sizes other same) (k.stays other same stays);
    }
