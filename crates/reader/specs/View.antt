-- A reader of the code, as the rules speak of it.
use Rattle.std.specs.Prelude.{List}
use Rattle.reader.specs.declared.Reader.{Reader}
use Rattle.rules.specs.Queues.{held}
use Rattle.rules.specs.Reader as model
use Rattle.rules.specs.declared.message.Message.{Message}

-- where items says what its slots have in them
abbrev pub view : {S F : Type 0} → (S → List Message) → Reader S F → model.Reader
view items r = record {
  address = r.address;
  link = r.link;
  stored = r.stored;
  out = r.out;
  class1 = held items r.class1;
  class2 = held items r.class2;
  inbox = held items r.inbox;
}
