use Rattle.std.proofs.Common.{◌+◌, ◌*◌}
use Rattle.acpi_events.proofs.notifications.Search.+search.Given as goal

abbrev pub decreases-follow : goal.decreases-follow
decreases-follow l = 3 * l.depth

abbrev pub decreases-put_line : goal.decreases-put_line
decreases-put_line l = 3 * l.depth + 1

abbrev pub decreases-put_method : goal.decreases-put_method
decreases-put_method l = 3 * l.depth + 2
