-- A heap from which entries are popped until none is held.
use Rattle.std.proofs.Common.{◌≡◌, suc, ◌+◌, ◌-◌, ◌≤◌, List, drop, sym, ap, ◌∙◌, arith}
use Rattle.std.proofs.lemmas.List.{drop-drop}
use Rattle.order.specs.declared.Heap.{Heap}
use Rattle.order.specs.Laws.{room, Popped}

-- Some of the entries that h held are popped, and k is left.
pub record Emptying {X : Type 0} (h k : Heap X) : Type 0 where
  pub fewer : k.len ≤ h.len
  pub same_room : room k ≡ room h
  pub past : drop h.len k.entries.now ≡ drop h.len h.entries.now

module _ {X : Type 0} (h g k : Heap X) (x : X) (e : Emptying h g) (p : Popped g x k) where
  -- past those that h held stands nothing that is popped
  past_popped : drop h.len k.entries.now ≡ drop h.len g.entries.now
  past_popped =
      let more = h.len - g.len in
      let few = e.fewer in
      let from-k : k.len + suc more ≡ h.len = omega (arith, p.len) in
      let from-g : g.len + more ≡ h.len = omega arith in
      ap (λ n. drop n k.entries.now) (sym from-k) ∙ sym (drop-drop (suc more) k.len k.entries.now) ∙ ap (λ (l : List X). drop (suc more) l) p.past ∙ drop-drop more g.len g.entries.now ∙ ap (λ n. drop n g.entries.now) from-g

  pub emptying_more : Emptying h k
  emptying_more = record { fewer = omega (arith, e.fewer, p.len); same_room = p.same_room ∙ e.same_room; past = past_popped ∙ e.past }
