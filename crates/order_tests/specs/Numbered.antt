-- What a queue keeps of its entries, and what each call does to its heap h, which is then k.
--     orders, orders_three     the orders that `ByTwo` and `ByThree` derive
--     Twos              the heaps of `ByTwo`
--     Small x           the number of x is below a hundred
--     Added h x k       x is small, and it is added
--     Declined h x k    x is not small or there is no room, and nothing is altered
--     Cleared h k       nothing is held any more, and what stood past the entries held is kept
use Rattle.std.specs.Prelude.{◌≡◌, ◌<◌, ◌≤◌, ◌⊎◌, drop}
use Rattle.std.specs.declared.cmp.Ordering.{Ordering}
use Rattle.order.specs.Laws.{room, Same, Pushed}
use Rattle.order.specs.declared.Heap.{Heap}
use Rattle.order_tests.specs.declared.ByTwo.{ByTwo}
use Rattle.order_tests.specs.declared.ByThree.{ByThree}
use Rattle.order_tests.specs.contracts.ByTwoOrd.TheImpl as two
use Rattle.order_tests.specs.contracts.ByThreeOrd.TheImpl as three

abbrev pub orders : ByTwo → ByTwo → Ordering
orders = (two.ghosts).cmp

abbrev pub orders_three : ByThree → ByThree → Ordering
orders_three = (three.ghosts).cmp

abbrev pub Twos : Type 0
Twos = Heap ByTwo

abbrev pub Small : ByTwo → Type 0
Small x = x.number < 100

abbrev pub Added : Twos → ByTwo → Twos → Type 0
Added h x k = Small x × Pushed h x k

abbrev pub Declined : Twos → ByTwo → Twos → Type 0
Declined h x k = ((100 ≤ x.number) ⊎ (h.len ≡ room h)) × Same h k

pub record Cleared (h k : Twos) : Type 0 where
  pub none : k.len ≡ 0
  pub same_room : room k ≡ room h
  pub past : drop h.len k.entries.now ≡ drop h.len h.entries.now
