use Rattle.std.proofs.Common.{◌≡◌, map, take, string_bytes}
use Rattle.acpins_browser.proofs.lent_folders.copy_names.Given as goal

abbrev pub invariant-loop-name : goal.invariant-loop-name
invariant-loop-name l = map string_bytes l.names.items ≡ map (λ n. n.bytes.now) (take l.name-index l.lent)
