-- Byte strings of several sources, one source after another.
use Rattle.std.proofs.Common.{◌≡◌, ◌+◌, ◌<◌, ◌≤◌, take_all, ℕ, Bool, List, [], ◌∷◌, ◌++◌, map, take, drop, take-append-drop, get_or, length, Option, None, refl, sym, ap, subst, ◌∙◌, append_assoc, append-nil}
use Rattle.std.specs.Borrow.{Bor}
use Rattle.std.specs.Prelude.{IfSome}
use Rattle.std.specs.declared.io.ErrorKind.{ErrorKind}
use Rattle.std.proofs.lemmas.List.{map-append, drop_more, take_more}
use Rattle.std.proofs.lemmas.Simd.{map-map}
use Rattle.acpins_io.specs.Outputs.{FileBytes}
use Rattle.acpins_survey_run.specs.Folders.{AreFilesAt, AreSsdtFiles, AreSsdtsAmong, FolderNames, path_in}
use Rattle.acpins_survey_run.specs.Input.{AreFilesOf, AreOfEach, AreTablesOfFiles, IsFileFault, IsFilesFault, IsFolderFault, IsFoldersFault}
use Rattle.acpins_survey_run.specs.steps.Adding.{Adds}
use Rattle.acpins_survey_run.specs.declared.failure.Failure.{Failure}

module _ {A : Type 0} (AreOf : A → List (List ℕ) → Type 0) where
  of_both : (xs ys : List A) (a b : List (List ℕ)) → AreOfEach AreOf xs a → AreOfEach AreOf ys b → AreOfEach AreOf (xs ++ ys) (a ++ b)
  of_both [] ys a b h k = subst (AreOfEach AreOf ys) (ap (λ l. l ++ b) (sym h)) k
  of_both (x ∷ xs) ys a b h k = (h.0, h.1 ++ b, ap (λ l. l ++ b) h.2 ∙ append_assoc h.0 h.1 b, h.3, of_both xs ys h.1 b h.4 k)

  of_one : (x : A) (a : List (List ℕ)) → AreOf x a → AreOfEach AreOf (x ∷ []) a
  of_one x a h = (a, [], sym (append-nil a), h, refl)

  -- those of so many sources, and of one more
  of_more : {B : Type 0} (view : B → A) (xs : List B) (i : ℕ) (d : B) (now added : List (List ℕ)) → i < length xs
      → AreOfEach AreOf (map view (take i xs)) now → AreOf (view (get_or xs i d)) added
      → AreOfEach AreOf (map view (take (i + 1) xs)) (now ++ added)
  of_more view xs i d now added below h k =
      let longer : map view (take (i + 1) xs) ≡ map view (take i xs) ++ view (get_or xs i d) ∷ [] =
      ap (map view) (take_more xs i d below) ∙ map-append view (take i xs) (get_or xs i d ∷ []) in
      let both = of_both (map view (take i xs)) (view (get_or xs i d) ∷ []) now added h (of_one (view (get_or xs i d)) added k) in
      subst (λ l. AreOfEach AreOf l (now ++ added)) (sym longer) both

  pub next_of : {B : Type 0} (view : B → A) (xs : List B) (i : ℕ) (d : B) (now new : List (List ℕ)) → i < length xs
      → AreOfEach AreOf (map view (take i xs)) now → Adds (AreOf (view (get_or xs i d))) now new → AreOfEach AreOf (map view (take (i + 1) xs)) new
  next_of view xs i d now new below h k =
      subst (AreOfEach AreOf (map view (take (i + 1) xs))) (sym k.1) (of_more view xs i d now k.0 below h k.2)

  -- those of all sources
  pub of_all : {B : Type 0} (view : B → A) (xs : List B) (i : ℕ) (all : List (List ℕ)) → length xs ≤ i → AreOfEach AreOf (map view (take i xs)) all
      → AreOfEach AreOf (map view xs) all
  of_all view xs i all past h = subst (λ l. AreOfEach AreOf (map view l) all) (take_all i xs past) h

-- ---- the files of a folder

-- a file that is no folder
pub plain_added : {S : Type 0} (text : S → List ℕ) (names_in : FolderNames) (name : List ℕ) (old new : List S) (file : S) → IfSome (names_in name) (λ known. None ≡ known)
    → text file ≡ name → new ≡ old ++ file ∷ [] → Adds (AreFilesAt names_in name) (map text old) (map text new)
plain_added text names_in name old new file known is more = (
  text file ∷ [],
  ap (map text) more ∙ map-append text old (file ∷ []),
  (None, known, ap (λ (p : List ℕ). p ∷ []) is),
)

-- the path of a name that is lent
abbrev pub lent_path : List ℕ → Bor (List ℕ) → List ℕ
lent_path folder name = path_in folder name.now

-- the files of all SSDTs
pub all_files : (extension folder : List ℕ) (names : List (List ℕ)) (ssdts : List (Bor (List ℕ))) (i : ℕ) (before after : List (List ℕ)) → length ssdts ≤ i
    → AreSsdtsAmong extension names (map (λ (s : Bor (List ℕ)). s.now) ssdts) → after ≡ before ++ map (lent_path folder) (take i ssdts)
    → Adds (AreSsdtFiles extension folder names) before after
all_files extension folder names ssdts i before after past among h =
    let now : Bor (List ℕ) → List ℕ = λ s. s.now in
    let paths = ap (map (lent_path folder)) (take_all i ssdts past) ∙ sym (map-map (path_in folder) now ssdts) in
    (map (lent_path folder) (take i ssdts), h, (map now ssdts, among, paths))

-- ---- the first that can't be read

split_at : {B : Type 0} (view : B → List ℕ) (xs : List B) (i : ℕ) (d : B) → i < length xs → map view xs ≡ map view (take i xs) ++ view (get_or xs i d) ∷ map view (drop (i + 1) xs)
split_at view xs i d below =
    ap (map view) (sym (take-append-drop i xs) ∙ ap (λ l. take i xs ++ l) (drop_more xs i d below)) ∙ map-append view (take i xs) (get_or xs i d ∷ drop (i + 1) xs)

pub first_folder : {B : Type 0} (names_in : FolderNames) (error : Option ErrorKind) (view : B → List ℕ) (xs : List B) (i : ℕ) (d : B) (files : List (List ℕ)) (f : Failure)
    → i < length xs → AreFilesOf names_in (map view (take i xs)) files → IsFolderFault names_in error (view (get_or xs i d)) f → IsFoldersFault names_in error (map view xs) f
first_folder names_in error view xs i d files f below before fault = record {
  earlier = map view (take i xs);
  name = view (get_or xs i d);
  later = map view (drop (i + 1) xs);
  splits = split_at view xs i d below;
  files = files;
  before = before;
  fault = fault;
}

pub first_file : {B : Type 0} (bytes_of : FileBytes) (hex : Bool) (error : Option ErrorKind) (view : B → List ℕ) (xs : List B) (i : ℕ) (d : B) (tables : List (List ℕ)) (f : Failure)
    → i < length xs → AreTablesOfFiles bytes_of hex (map view (take i xs)) tables → IsFileFault hex (view (get_or xs i d)) (bytes_of (view (get_or xs i d))) error f
    → IsFilesFault bytes_of hex error (map view xs) f
first_file bytes_of hex error view xs i d tables f below before fault = record {
  earlier = map view (take i xs);
  name = view (get_or xs i d);
  later = map view (drop (i + 1) xs);
  splits = split_at view xs i d below;
  tables = tables;
  before = before;
  fault = fault;
}
