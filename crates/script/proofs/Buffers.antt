-- Landmark records in a buffer.
--   within_held    a number that is at most the most is within a room or not, also where the room is held to the most
--   room_held      a buffer with the most places there can be records is answered as any longer one
--   records_read   where the records are told, the front of what the buffer then holds is the records
--   told_all       the answer where the records are told
--   told_short     the answer where the buffer is too short
use Rattle.std.proofs.Common.{◌≡◌, ℕ, ◌≤◌, min, Bool, cond, leb, List, ◌++◌, length, take, drop, is_ok, Ok, Err, Result, sym, ap, ◌∙◌, ⊎_elim, arith}
use Rattle.std.proofs.lemmas.List.{length-append, take_all, take-take, take-append-le}
use Rattle.std.proofs.lemmas.Bool.{cases_Bool, cond-true, cond-false, leb-true, leb-false, le-leb, lt-leb, true≢false}
use Rattle.tables.specs.Problem.{Problem}
use Rattle.task.specs.declared.state.State.{State}
use Rattle.landmarks.specs.Rounds.{grounds}
use Rattle.landmarks.specs.declared.Ground.{Ground}
use Rattle.lmcut.specs.Recorded.{recorded, record_buffer}
use Rattle.lmcut.specs.declared.estimator.GroundsFault.{GroundsFault}
use Rattle.lmcut.specs.declared.estimator.GroundsFault.TheVariants.{TooShort}
use Rattle.script.specs.Answers.{told_grounds}
use Rattle.script.specs.Said.{Grounds, RefusedSearch}

within_held : (k room n : ℕ) → k ≤ 8421890 → n ≡ min room 8421890 → leb k n ≡ leb k room
within_held k room n most is =
    ⊎_elim (λ e. let h = leb-true k n e in e ∙ sym (le-leb k room (omega arith))) (λ e. let h = leb-false k n e in e ∙ sym (lt-leb k room (omega arith)))
    (cases_Bool (leb k n))

-- the number that an answer tells, else another
abbrev number_in : ℕ → Result ℕ GroundsFault → ℕ
number_in d (Ok n) = n
number_in d (Err fault) = d

module _ (p : Problem) (s : State) where
  pub room_held : (room n : ℕ) → length (grounds p s) ≤ 8421890 → n ≡ min room 8421890 → recorded p s n ≡ recorded p s room
  unfolding recorded
  room_held room n most is = ap (λ (b : Bool). cond b (Ok (length (grounds p s))) (Err TooShort)) (within_held (length (grounds p s)) room n most is)

  pub records_read : (bs xs : List Ground) (n count : ℕ) → n ≡ length bs → Ok count ≡ recorded p s (length bs) → take count (take n (record_buffer p s bs ++ xs)) ≡ grounds p s
  unfolding recorded record_buffer
  records_read bs xs n count long told =
      let gs = grounds p s in
      let past = drop (length gs) bs in
      ⊎_elim
      (λ e.
      let within = leb-true (length gs) (length bs) e in
      let size = length-append gs past in
      let same : count ≡ length gs = ap (number_in count) (told ∙ cond-true (leb (length gs) (length bs)) _ _ e) in
      let front : take (length gs) (take n ((gs ++ past) ++ xs)) ≡ gs =
      take-take (length gs) n ((gs ++ past) ++ xs) (omega arith)
      ∙ take-append-le (length gs) (gs ++ past) xs (omega arith)
      ∙ take-append-le (length gs) gs past (omega arith)
      ∙ take_all (length gs) gs (omega arith) in
      ap (λ (rs : List Ground). take count (take n (rs ++ xs))) (cond-true (leb (length gs) (length bs)) _ _ e) ∙ ap (λ (k : ℕ). take k (take n ((gs ++ past) ++ xs))) same ∙ front)
      (λ e. absurd (true≢false (ap is_ok (told ∙ cond-false (leb (length gs) (length bs)) _ _ e))))
      (cases_Bool (leb (length gs) (length bs)))

  pub told_all : (room : ℕ) (bs held xs rs : List Ground) (n count : ℕ) → length (grounds p s) ≤ 8421890 → length bs ≡ min room 8421890 → n ≡ length bs
      → Ok count ≡ recorded p s (length bs) → held ≡ record_buffer p s bs → rs ≡ take count (take n (held ++ xs))
      → Grounds rs ≡ told_grounds (grounds p s) (recorded p s room)
  told_all room bs held xs rs n count most is long told written cut =
      ap Grounds (cut ∙ ap (λ (hs : List Ground). take count (take n (hs ++ xs))) written ∙ records_read bs xs n count long told)
      ∙ ap (told_grounds (grounds p s)) (told ∙ room_held room (length bs) most is)

  pub told_short : (room : ℕ) (bs : List Ground) (fault : GroundsFault) → length (grounds p s) ≤ 8421890 → length bs ≡ min room 8421890
      → Err fault ≡ recorded p s (length bs) → RefusedSearch fault ≡ told_grounds (grounds p s) (recorded p s room)
  told_short room bs fault most is told = ap (told_grounds (grounds p s)) (told ∙ room_held room (length bs) most is)
