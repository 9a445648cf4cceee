-- Laws of what is written: two calls over the same tables write the same, so they need the same room.
use Rattle.std.specs.Prelude.{◌≡◌, ℕ, List}
use Rattle.acpi_name.specs.Names.{Segment}
use Rattle.acpins_records.specs.declared.body.BodyRecord.{BodyRecord}
use Rattle.acpins_records.specs.Bodies.{IsBodyAt}
use Rattle.acpins_records.specs.Contents.{Contents}
use Rattle.acpins_records.specs.Written.{IsContentsOf}

-- tables load to one list of contents at most
abbrev pub OneContents : Type 0
OneContents = (depth : ℕ) (tables : List (List ℕ)) (c d : Contents) → IsContentsOf depth tables c
    → IsContentsOf depth tables d → c ≡ d

-- a body has one text at most
abbrev pub OneBodyText : Type 0
OneBodyText = (depth : ℕ) (tables : List (List ℕ)) (path : List Segment) (r s : BodyRecord)
    (text other : List ℕ) → IsBodyAt depth tables path r text
    → IsBodyAt depth tables path s other → text ≡ other
