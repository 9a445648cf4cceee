-- The files of tables in a folder: as the kernel has them in /sys/firmware/acpi/tables (`DSDT`, `SSDT1`, a folder
-- `dynamic`), or as acpixtract and others write them (`dsdt.dat`, `ssdt1.dat`, `SSDT1.aml`).
use Rattle.std.specs.Prelude.{◌≡◌, ◌^◌, ◌-◌, ℕ, ◌&&◌, List, [], ◌∷◌, ◌++◌, Option, Some, None, IfSome, length, map, filter_map, option_map, option_and_then, drop, take, codes, nat_eq, nat_lt, if◌then◌else◌}
use Rattle.std.specs.List.{ends_with}
use Rattle.std.specs.List.Sorted.{IsPermutation, IsSorted}
use Rattle.std.specs.Str.{all_ascii_digits, bytes_eq, str_to_ascii_lowercase}
use Rattle.std.specs.Str.Parse.{digits_value}
use Rattle.std.specs.Ordering.{nat_cmp, ordering_then}
use Rattle.std.specs.Cmp.Lexicographic.{slice_cmp}
use Rattle.std.specs.declared.cmp.Ordering.{Ordering}

-- the names in the folder of each name, where they are known; Some None where no folder has that name
abbrev pub FolderNames : Type 0
FolderNames = List ℕ → Option (Option (List (List ℕ)))

-- the path of a name in a folder
abbrev pub path_in : List ℕ → List ℕ → List ℕ
path_in folder name = folder ++ (if ends_with nat_eq folder (codes "/") then [] else codes "/")
    ++ name

-- ---- the DSDT's file, by its name in any case of letters

-- what stands behind `dsdt`: nothing, `.dat` or `.aml`
abbrev pub dsdt_extension : List ℕ → Option (List ℕ)
dsdt_extension name =
    if bytes_eq name (codes "dsdt") then Some []
    else (if bytes_eq name (codes "dsdt.dat") then Some (codes ".dat")
    else (if bytes_eq name (codes "dsdt.aml") then Some (codes ".aml") else None))

-- the names of DSDTs' files among these, each with its extension
abbrev pub dsdts_among : List (List ℕ) → List (List ℕ × List ℕ)
dsdts_among = filter_map (λ name.
    option_map (λ extension. (name, extension)) (dsdt_extension (str_to_ascii_lowercase name)))

-- ---- SSDTs' files, by their names in any case of letters

-- the number that decimal digits spell, which is below 2 ^ 32; 0 where there are none
abbrev pub number_of : List ℕ → Option ℕ
number_of digits =
    if all_ascii_digits digits && nat_lt (digits_value 10 digits) (2 ^ 32) then
    Some (digits_value 10 digits) else None

-- what stands before an extension
abbrev pub stem : List ℕ → List ℕ → Option (List ℕ)
stem extension name =
    let front = length name - length extension in
    if bytes_eq (drop front name) extension then Some (take front name) else None

-- the number between `ssdt` and an extension
abbrev pub ssdt_number : List ℕ → List ℕ → Option ℕ
ssdt_number extension name =
    if bytes_eq (take 4 name) (codes "ssdt") then
    option_and_then number_of (stem extension (drop 4 name)) else None

-- the names of SSDTs' files with that extension among these, each behind its number
abbrev pub numbered_ssdts : List ℕ → List (List ℕ) → List (ℕ × List ℕ)
numbered_ssdts extension = filter_map (λ name.
    option_map (λ number. (number, name)) (ssdt_number extension (str_to_ascii_lowercase name)))

-- the order of their numbers; names of one number, as SSDT01 and SSDT1, are in the order of their bytes
abbrev pub numbered_cmp : ℕ × List ℕ → ℕ × List ℕ → Ordering
numbered_cmp x y = ordering_then (nat_cmp x.0 y.0) (slice_cmp nat_cmp x.1 y.1)

-- the names of SSDTs' files among these, each as often as it is there, in the order of their numbers
pub record AreSsdtsAmong (extension : List ℕ) (names ssdts : List (List ℕ)) : Type 0 where
  pub numbered : List (ℕ × List ℕ)
  pub each : IsPermutation (numbered_ssdts extension names) numbered
  pub ascending : IsSorted numbered_cmp numbered
  pub are : ssdts ≡ map (λ (x : ℕ × List ℕ). x.1) numbered

-- ---- the files of a folder

-- the SSDTs' files in a folder in which there are these names
abbrev pub AreSsdtFiles : List ℕ → List ℕ → List (List ℕ) → List (List ℕ) → Type 0
AreSsdtFiles extension folder names files =
    (ssdts : List (List ℕ)) × AreSsdtsAmong extension names ssdts
    × (files ≡ map (path_in folder) ssdts)

-- .. in a folder that may not be there
abbrev pub AreSsdtFilesBy : List ℕ → List ℕ → Option (List (List ℕ)) → List (List ℕ) → Type 0
AreSsdtFilesBy extension folder None files = files ≡ []
AreSsdtFilesBy extension folder (Some names) files = AreSsdtFiles extension folder names files

-- the folder `dynamic` of a folder
abbrev pub dynamic_in : List ℕ → List ℕ
dynamic_in folder = path_in folder (codes "dynamic")

-- the names in a folder, None where there is none: those that are known, if any are
abbrev pub AreNamesIn : FolderNames → List ℕ → Option (List (List ℕ)) → Type 0
AreNamesIn names_in folder found = IfSome (names_in folder) (λ known. found ≡ known)

-- .. in the folder `dynamic` of a folder
abbrev pub AreDynamicFiles : FolderNames → List ℕ → List ℕ → List (List ℕ) → Type 0
AreDynamicFiles names_in extension folder files =
    (found : Option (List (List ℕ))) × AreNamesIn names_in (dynamic_in folder) found
    × AreSsdtFilesBy extension (dynamic_in folder) found files

-- The files of a folder in which there are these names: that of its one DSDT, those of its SSDTs with the same
-- extension, and then those of the SSDTs in its folder `dynamic`.
pub record AreFilesIn (names_in : FolderNames) (folder : List ℕ)
    (names files : List (List ℕ)) : Type 0 where
  pub dsdt : List ℕ
  pub extension : List ℕ
  pub one_dsdt : dsdts_among names ≡ (dsdt, extension) ∷ []
  pub ssdts : List (List ℕ)
  pub of_ssdts : AreSsdtFiles extension folder names ssdts
  pub dynamic : List (List ℕ)
  pub of_dynamic : AreDynamicFiles names_in extension folder dynamic
  pub are : files ≡ path_in folder dsdt ∷ ssdts ++ dynamic

-- ---- the files that arguments stand for

-- the files at a name, by the names in the folder there: the file itself where it is none
abbrev pub AreFilesBy : FolderNames → List ℕ → Option (List (List ℕ)) → List (List ℕ) → Type 0
AreFilesBy names_in name None files = files ≡ name ∷ []
AreFilesBy names_in name (Some names) files = AreFilesIn names_in name names files

-- the files at a name: itself, or those of the folder there
abbrev pub AreFilesAt : FolderNames → List ℕ → List (List ℕ) → Type 0
AreFilesAt names_in name files = (found : Option (List (List ℕ)))
    × AreNamesIn names_in name found × AreFilesBy names_in name found files
