-- Room for the contents of a load.
use Rattle.std.specs.Prelude.{◌≤◌, length}
use Rattle.acpins_records.specs.Contents.{Contents}

-- no array is too short
pub record Fits (c old : Contents) : Type 0 where
  pub objects : length c.objects ≤ length old.objects
  pub targets : length c.targets ≤ length old.targets
  pub text : length c.text ≤ length old.text
  pub parts : length c.parts ≤ length old.parts
  pub bytes : length c.bytes ≤ length old.bytes
