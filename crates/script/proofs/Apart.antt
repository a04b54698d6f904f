-- A text with a word is not blank.
--   split   characters that are all white do not spell white space, then a word, then what is left
--   apart   no text is blank and has a next word
use Rattle.std.proofs.Common.{◌≡◌, ℕ, ◌<◌, not, List, [], ◌∷◌, ◌++◌, length, sym, ap, ◌∙◌, subst, arith}
use lib.Utf8.{encode, encodes}
use Rattle.std.proofs.lemmas.Bool.{false≢true}
use Rattle.std.proofs.lemmas.List.{append_assoc}
use Rattle.std.proofs.lemmas.Str.{cons_from_encodes}
use Rattle.std.specs.Char.{is_whitespace, is_not_whitespace}
use Rattle.std.specs.Str.{NonePass}
use Rattle.script.specs.Unread.{Blank, Next}

split : (cs gs ws left : List ℕ) → encodes cs ≡ encodes gs ++ (encodes ws ++ left) → 0 < length (encodes ws) → NonePass is_not_whitespace cs → NonePass is_whitespace ws → ⊥
split cs (g ∷ gs) ws left e some all none =
    let from = cons_from_encodes cs (encodes gs ++ (encodes ws ++ left)) g (e ∙ append_assoc (encode g) (encodes gs) (encodes ws ++ left)) in
    split from.0 gs ws left from.2 some (subst (NonePass is_not_whitespace) from.1 all).1 none
split cs [] (w ∷ ws) left e some all none =
    let from = cons_from_encodes cs (encodes ws ++ left) w (e ∙ append_assoc (encode w) (encodes ws) left) in
    false≢true (sym (subst (NonePass is_not_whitespace) from.1 all).0 ∙ ap not none.0)
split cs [] [] left e some all none = omega arith

pub apart : (s word left : List ℕ) → Next s word left → Blank s → ⊥
apart s word left n b =
    let gap = n.3 in
    let own = n.4 in
    split b.0 gap.0 own.0 left
    (b.1 ∙ n.1 ∙ sym (ap (λ g. g ++ (word ++ left)) gap.1) ∙ sym (ap (λ w. encodes gap.0 ++ (w ++ left)) own.1))
    (subst (λ w. 0 < length w) (sym own.1) n.2) b.2 own.2
