-- A copy of a form without data is the form again.
use Rattle.std.proofs.Common.{sym, ap}
use Rattle.acpi_tree.specs.Objects.{object_view}
use Rattle.acpi_tree.proofs.object.Object.copy.Goals as goal

pub returns-in-Root : goal.returns-in-Root
returns-in-Root c = sym (ap object_view c.in-Root.is)

pub returns-in-Scope : goal.returns-in-Scope
returns-in-Scope c = sym (ap object_view c.in-Scope.is)

pub returns-in-Predefined : goal.returns-in-Predefined
returns-in-Predefined c = sym (ap object_view c.in-Predefined.is)

pub returns-in-Device : goal.returns-in-Device
returns-in-Device c = sym (ap object_view c.in-Device.is)

pub returns-in-Processor : goal.returns-in-Processor
returns-in-Processor c = sym (ap object_view c.in-Processor.is)

pub returns-in-Power : goal.returns-in-Power
returns-in-Power c = sym (ap object_view c.in-Power.is)

pub returns-in-Thermal : goal.returns-in-Thermal
returns-in-Thermal c = sym (ap object_view c.in-Thermal.is)

pub returns-in-Method : goal.returns-in-Method
returns-in-Method c = sym (ap object_view c.in-Method.is)

pub returns-in-Region : goal.returns-in-Region
returns-in-Region c = sym (ap object_view c.in-Region.is)

pub returns-in-Mutex : goal.returns-in-Mutex
returns-in-Mutex c = sym (ap object_view c.in-Mutex.is)

pub returns-in-Event : goal.returns-in-Event
returns-in-Event c = sym (ap object_view c.in-Event.is)

pub returns-in-Field : goal.returns-in-Field
returns-in-Field c = sym (ap object_view c.in-Field.is)

pub returns-in-Create : goal.returns-in-Create
returns-in-Create c = sym (ap object_view c.in-Create.is)

pub returns-in-CreateField : goal.returns-in-CreateField
returns-in-CreateField c = sym (ap object_view c.in-CreateField.is)
