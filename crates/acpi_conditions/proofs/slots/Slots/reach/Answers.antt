use Rattle.std.proofs.Common.{◌≡◌, length, refl, ◌∙◌}
use Rattle.acpi_conditions.specs.declared.statuses.Presence.TheVariants.{Nothing}
use Rattle.acpi_conditions.specs.declared.slots.Slot.{Slot}
use Rattle.acpi_conditions.proofs.KeptSlots.{numbered_more, kept_more, paths_more, number_more, empty_here}
use Rattle.acpi_conditions.proofs.slots.Slots.reach.Goals as goal

count : (c : goal.In-Ok) → c.len-number.result ≡ length c.args.self.now.slots.items
count c = c.len-number.ensures ∙ c.args.self.now.slots.ok.0

abbrev slot : goal.In-Ok → Slot
slot c = record { path = c.in_ok-copy.field-0; sights = c.new.result; certain = Nothing }

pub returns-in-Ok-clause-numbered : goal.returns-in-Ok-clause-numbered
returns-in-Ok-clause-numbered c =
    numbered_more c.args.self.now.numbers c.insert.new.self c.args.self.now.slots.items c.push.new.self.items (slot c) c.in_ok-key.key c.args.path.now c.len-number.result c.requires c.in-Ok.ensures.free c.in-Ok.ensures.ok (count c)
    c.in_ok-push.ensures.items c.in_ok-key.ensures c.in_ok-copy.ensures

pub returns-in-Ok-clause-same : goal.returns-in-Ok-clause-same
returns-in-Ok-clause-same c =
    kept_more c.args.self.now.numbers c.insert.new.self c.args.self.now.slots.items c.push.new.self.items (slot c) c.in_ok-key.key c.args.path.now c.len-number.result c.requires c.in-Ok.ensures.free c.in-Ok.ensures.ok (count c)
    c.in_ok-push.ensures.items c.in_ok-key.ensures c.in_ok-copy.ensures (empty_here (slot c) c.new.ensures.items refl)

pub returns-in-Ok-clause-paths : goal.returns-in-Ok-clause-paths
returns-in-Ok-clause-paths c =
    paths_more c.args.self.now.numbers c.insert.new.self c.args.self.now.slots.items c.push.new.self.items (slot c) c.in_ok-key.key c.args.path.now c.len-number.result c.requires c.in-Ok.ensures.free c.in-Ok.ensures.ok (count c)
    c.in_ok-push.ensures.items c.in_ok-key.ensures c.in_ok-copy.ensures

pub returns-in-Ok-clause-number : goal.returns-in-Ok-clause-number
returns-in-Ok-clause-number c =
    number_more c.args.self.now.numbers c.insert.new.self c.args.self.now.slots.items c.push.new.self.items (slot c) c.in_ok-key.key c.args.path.now c.len-number.result c.requires c.in-Ok.ensures.free c.in-Ok.ensures.ok (count c)
    c.in_ok-push.ensures.items c.in_ok-key.ensures c.in_ok-copy.ensures
