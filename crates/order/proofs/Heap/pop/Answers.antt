use Rattle.std.proofs.Common.{◌≡◌, ◌+◌, ◌-◌, ◌<◌, length, ◌∙◌, arith}
use Rattle.order.proofs.Holding.{keeps_heaped, first_some, popped_heaped, popped_held, popped_rest}
use Rattle.order.proofs.Heap.pop.Goals as goal

pub returns-clause-lawful : goal.returns-clause-lawful
returns-clause-lawful g c =
    let xs = c.args.self.now.entries.now in
    let n = c.args.self.now.len in
    let first = c.in_ok-first.ensures in
    let some : 0 < n = first_some first in
    let le = c.requires.0 in
    let len : n ≡ (n - 1) + 1 = omega arith in
    let long : length c.swap.new.self ≡ length xs = c.swap.ensures.len in
    let same : length c.sift_down.new.entries ≡ length xs = c.sift_down.ensures.len ∙ long in
    (omega arith, ∣ (λ o. popped_heaped xs c.swap.new.self c.sift_down.new.entries n (n - 1) c.in_ok-first.first len le first.front c.swap.ensures.by_index c.sift_down.ensures.sunk long o (keeps_heaped xs n c.requires o)) ∣₁)

pub returns-clause-popped : goal.returns-clause-popped
returns-clause-popped g c =
    let xs = c.args.self.now.entries.now in
    let n = c.args.self.now.len in
    let ys = c.swap.new.self in
    let zs = c.sift_down.new.entries in
    let x = c.in_ok-first.first in
    let first = c.in_ok-first.ensures in
    let some : 0 < n = first_some first in
    let m = n - 1 in
    let len : n ≡ m + 1 = omega arith in
    let le = c.requires.0 in
    let swaps = c.swap.ensures.by_index in
    let down = c.sift_down.ensures.sunk in
    let long : length ys ≡ length xs = c.swap.ensures.len in
    record { len = len; same_room = c.sift_down.ensures.len ∙ long; entries = popped_held xs ys zs n m x len le first.front swaps down long; past = popped_rest xs ys zs n m x len le first.front swaps down long }
