-- A concentrator as the rules of the link speak of it.
use Rattle.std.specs.Prelude.{List}
use Rattle.rules.specs.Concentrator.{Concentrator as Model}
use Rattle.rules.specs.Queues.{held}
use Rattle.rules.specs.declared.records.Arrival.{Arrival}
use Rattle.rules.specs.declared.records.Report.{Report}
use Rattle.concentrator.specs.declared.Concentrator.{Concentrator}

-- p and q say what the slots for arrivals and for reports have in them
abbrev pub view : {P Q F : Type 0} → (P → List Arrival) → (Q → List Report) → Concentrator P Q F → Model
view p q c = record {
  repetitions = c.repetitions;
  links = c.links.records;
  exchange = c.exchange;
  arrivals = held p c.arrivals;
  reports = held q c.reports;
}
