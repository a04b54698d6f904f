use Rattle.std.proofs.Common.{◌≡◌, ◌/◌, ◌%◌, ◌<◌, get_or, set, eqb, ◌||◌, sym, subst, arith, rules}
use lib.Bits.{bit_or}
use Rattle.std.proofs.lemmas.Nat.{one_shl}
use Rattle.lmcut.specs.Bitwise.{holds_action}
use Rattle.lmcut.proofs.Bitwise.{action_inserted}
use Rattle.lmcut.proofs.bits.insert.Goals as goal

pub returns : goal.returns
returns c a =
    let ws = c.args.words.now in
    let action = c.args.action in
    let below : action % 128 < 128 = omega arith in
    subst (λ b. holds_action (set ws (action / 128) (bit_or (get_or ws (action / 128) 0) b)) a ≡ (holds_action ws a || eqb a action)) (sym (one_shl (action % 128) 128 below)) (action_inserted ws action (search rules) c.requires a)
