-- What the tables of a task hold, apart from where they are lent.
--   Problem    a planning task: the head and the four tables as lists
--   contents   the problem that lent tables hold
--   no_link    what a number that is in no table would stand for; nothing depends on it
use Rattle.std.specs.Prelude.{List, pos}
use Rattle.tables.specs.declared.Head.{Head}
use Rattle.tables.specs.declared.Quantity.{Quantity}
use Rattle.tables.specs.declared.Condition.{Condition}
use Rattle.tables.specs.declared.Move.{Move}
use Rattle.tables.specs.declared.Link.{Link}
use Rattle.tables.specs.declared.Tables.{Tables}

pub record Problem : Type 0 where
  pub head : Head
  pub quantities : List Quantity
  pub conditions : List Condition
  pub moves : List Move
  pub links : List Link

abbrev pub contents : Tables → Problem
contents t = record { head = t.head; quantities = t.quantities.now; conditions = t.conditions.now; moves = t.moves.now; links = t.links.now }

abbrev pub no_link : Link
no_link = record { kind = 0; subject = 0; amount = pos 0; next = 0 }
