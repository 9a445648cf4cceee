-- The ids of findings, their texts and levels.
use Rattle.std.specs.Prelude.{ℕ, List, [], ◌∷◌, Option, codes, find}
use Rattle.std.specs.Str.{bytes_eq}
use Rattle.acpi_check_ids.specs.declared.ids.CheckId.{CheckId}
use Rattle.acpi_check_ids.specs.declared.ids.CheckId.TheVariants as ids
use Rattle.acpi_check_ids.specs.declared.ids.Level.{Level}
use Rattle.acpi_check_ids.specs.declared.ids.Level.TheVariants as levels

-- an id as it is printed and typed
abbrev pub id_text : CheckId → List ℕ
id_text ids.Problem = codes "problem"
id_text ids.NoLink = codes "no-link"
id_text ids.NoName = codes "no-name"
id_text ids.NoValue = codes "no-value"
id_text ids.NoElement = codes "no-element"
id_text ids.NotSerialized = codes "not-serialized"
id_text ids.Twice = codes "twice"
id_text ids.Held = codes "held"
id_text ids.Arguments = codes "arguments"
id_text ids.SameId = codes "same-id"
id_text ids.Routing = codes "routing"
id_text ids.Resource = codes "resource"
id_text ids.Past = codes "past"
id_text ids.Properties = codes "properties"
id_text ids.Event = codes "event"
id_text ids.SomeValue = codes "some-value"
id_text ids.Id = codes "id"
id_text ids.SameAddress = codes "same-address"
id_text ids.Lacks = codes "lacks"
id_text ids.Polls = codes "polls"
id_text ids.Never = codes "never"
id_text ids.GuardedPort = codes "guarded-port"
id_text ids.System = codes "system"

-- all ids, in the order in which findings are printed
abbrev pub all_ids : List CheckId
all_ids =
    ids.Problem ∷ ids.NoLink ∷ ids.NoName ∷ ids.NoValue ∷ ids.NoElement ∷ ids.NotSerialized
    ∷ ids.Twice ∷ ids.Held ∷ ids.Arguments ∷ ids.SameId ∷ ids.Routing ∷ ids.Resource ∷ ids.Past
    ∷ ids.Properties ∷ ids.Event ∷ ids.SomeValue ∷ ids.Id ∷ ids.SameAddress ∷ ids.Lacks
    ∷ ids.Polls ∷ ids.Never ∷ ids.GuardedPort ∷ ids.System ∷ []

-- the first of these ids that is typed so
abbrev pub id_among : List CheckId → List ℕ → Option CheckId
id_among ids text = find (λ id. bytes_eq (id_text id) text) ids

-- the id that is typed so
abbrev pub id_of : List ℕ → Option CheckId
id_of text = id_among all_ids text

-- how bad its findings are
abbrev pub level_of : CheckId → Level
level_of ids.Problem = levels.Error
level_of ids.NoLink = levels.Error
level_of ids.NoName = levels.Error
level_of ids.SomeValue = levels.Remark
level_of ids.Id = levels.Remark
level_of ids.SameAddress = levels.Remark
level_of ids.Lacks = levels.Remark
level_of ids.Polls = levels.Remark
level_of ids.Never = levels.Remark
level_of ids.GuardedPort = levels.Remark
level_of ids.System = levels.Remark
level_of _ = levels.Warning

-- the word for it
abbrev pub level_text : Level → List ℕ
level_text levels.Error = codes "error"
level_text levels.Warning = codes "warning"
level_text levels.Remark = codes "remark"
