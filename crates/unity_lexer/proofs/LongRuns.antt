-- Comments and long words, taken from a window in stretches.
use Rattle.std.proofs.Common.{◌≡◌, ℕ, ◌+◌, ◌<◌, ◌≤◌, ◌↔◌, Bool, true, false, not, ◌⊎◌, inl, inr, List, [], ◌∷◌, ◌++◌}
use Rattle.std.proofs.Common.{length, take, Option}
use Rattle.std.proofs.Common.{Some, None, refl, sym, ap, ◌∙◌, subst, arith, append_assoc}
use Rattle.std.specs.List.{list_all}
use Rattle.std.specs.Io.KnownBytes.{Consumes}
use Rattle.std.proofs.lemmas.List.{length-append}
use Rattle.unity_base.specs.declared.window.Window.{Window}
use Rattle.unity_base.specs.Window.{held, coming, window_bytes, HasDropped, HasPassed, PassesLimit}
use Rattle.unity_lexer.specs.declared.ahead.Next.TheVariants as next
use Rattle.unity_lexer.specs.declared.stretches.Run.{Run}
use Rattle.unity_lexer.specs.declared.stretches.Run.TheVariants as run
use Rattle.unity_lexer.specs.Windows.{Comes, IsAhead, RunHalts, HasTaken, HasRun, HasKept, HasGiven, PassesGap}
use Rattle.unity_lexer.specs.Windows.{PassesWord}
use Rattle.unity_lexer.proofs.ScanSteps.{passed_then, dropped_passed}
use Rattle.unity_lexer.proofs.Scanning.{comment_gap, long_run}
use Rattle.unity_lexer.specs.Tokens.{is_word_byte, is_word}
use Rattle.unity_lexer.proofs.Longest.{and_left, both, letter_continues}
use Rattle.unity_lexer.proofs.Taking.{known, all_append, passes_limit, taken_then, taken_front, taken_passed}
use Rattle.unity_lexer.proofs.Taking.{shown_fits}

pub run_passed : (r : Run) (v x : Window) (b c : Option (List ℕ)) → HasRun r v x b c → HasPassed v x b c
run_passed r v x b c h = taken_passed v x b c h.dropped h.taken

-- the limit is passed by what comes, where it is passed by the rest of that
pub passes_back : (u x : Window) (a c : Option (List ℕ)) → HasPassed u x a c → x.limit < x.at + length (held x)
    → PassesLimit u (coming u a)
passes_back u x a c p past = at (coming u a) (coming x c) p.consumes (passes_limit x c past)
  where
    at : (l m : Option (List ℕ)) → Consumes l m p.dropped → PassesLimit x m → PassesLimit u l
    at None m consumes h = tt
    at (Some xs) None consumes h = absurd consumes
    at (Some xs) (Some ys) consumes h =
        let place = p.at in
        let same = p.limit in
        omega (arith, h, ap length consumes, length-append p.dropped ys)

first_byte : (xs more rest : List ℕ) → 0 < length xs → 35 ∷ rest ≡ xs ++ more → take 1 xs ≡ 35 ∷ []
first_byte [] more rest some e = absurd (omega arith)
first_byte (x ∷ xs) more rest some e = let same : x ≡ 35 = cc in ap (λ b. b ∷ []) same

module _ (u v x : Window) (a c : Option (List ℕ)) (some : 0 < length (window_bytes u)) (d : HasDropped u v 1)
    (h : HasRun run.Line v x a c) where
  pub comment_passed : HasPassed u x a c
  comment_passed = passed_then u v x a a c (dropped_passed u v a 1 (omega arith) d) (run_passed run.Line v x a c h)

  pub comment_rises : u.at < x.at
  comment_rises = let one = d.at in let more = h.taken.at in omega arith

  comment_all : (rest : List ℕ) → coming u a ≡ Some (35 ∷ rest) → HasTaken u x a c (35 ∷ h.dropped)
  comment_all rest e =
      let told = known (held u) a (35 ∷ rest) e in
      let fits : 1 ≤ length (held u) = omega (arith, shown_fits u) in
      subst (λ xs. HasTaken u x a c (xs ++ h.dropped)) (first_byte (held u) told.0 rest fits told.2)
      (taken_then u v x a a c (take 1 (held u)) h.dropped (taken_front u v a 1 d fits) h.taken)

  pub comment_taken : RunHalts run.Line x c → x.at + length (held x) ≤ x.limit → (rest : List ℕ)
      → coming u a ≡ Some (35 ∷ rest) → PassesGap u.at (35 ∷ rest) x.at (coming x c)
  comment_taken halts inside rest e =
      comment_gap u x a c h.dropped rest (comment_all rest e) h.passes halts inside e

  -- what was kept of it
  pub comment_given : (kept mid now : List ℕ) → mid ≡ kept ++ take 1 (held u) → now ≡ mid ++ h.dropped
      → HasGiven u x a c kept now
  comment_given kept mid now e f = record {
    dropped = take 1 (held u) ++ h.dropped;
    taken = taken_then u v x a a c (take 1 (held u)) h.dropped
        (taken_front u v a 1 d (omega (arith, shown_fits u))) h.taken;
    appended = f ∙ ap (λ xs. xs ++ h.dropped) e ∙ append_assoc kept (take 1 (held u)) h.dropped;
  }

-- the first byte of a word goes on with it
first_passes : (xs more front rest : List ℕ) → 0 < length xs → front ++ rest ≡ xs ++ more → is_word front ≡ true
    → list_all is_word_byte (take 1 xs) ≡ true
first_passes [] more front rest some e made = absurd (omega arith)
first_passes (x ∷ xs) more [] rest some e made = cc
first_passes (x ∷ xs) more (b ∷ bs) rest some e made =
    let same : b ≡ x = cc in
    both _ _ (ap is_word_byte (sym same) ∙ letter_continues b (and_left _ _ made)) refl

-- a long word, of which the first byte was dropped before the rest of the run
module _ (u v x : Window) (a c : Option (List ℕ)) (some : 0 < length (window_bytes u)) (d : HasDropped u v 1)
    (h : HasRun run.Word v x a c) where
  pub word_passed : HasPassed u x a c
  word_passed = passed_then u v x a a c (dropped_passed u v a 1 (omega arith) d) (run_passed run.Word v x a c h)

  pub word_rises : u.at < x.at
  word_rises = let one = d.at in let more = h.taken.at in omega arith

  word_all : (bytes : List ℕ) → coming u a ≡ Some bytes → Comes u.limit u.at bytes next.Word → HasRun run.Word u x a c
  word_all bytes e front =
      let told = known (held u) a bytes e in
      let fits : 1 ≤ length (held u) = omega (arith, shown_fits u) in
      record {
        dropped = take 1 (held u) ++ h.dropped;
        taken = taken_then u v x a a c (take 1 (held u)) h.dropped (taken_front u v a 1 d fits) h.taken;
        passes = all_append is_word_byte (take 1 (held u)) h.dropped
            (first_passes (held u) told.0 front.0 front.1 fits (sym front.2 ∙ told.2) front.3) h.passes;
      }

  pub whole_word : RunHalts run.Word x c → x.at + length (held x) ≤ x.limit → IsAhead u a next.Word → (bytes : List ℕ)
      → coming u a ≡ Some bytes → PassesWord u.at bytes x.at (coming x c)
  whole_word halts inside ahead = λ bytes e.
      let front = ahead bytes e in
      long_run u x a c bytes front.0 front.1 (word_all bytes e front) halts inside e front.2 front.3 front.4

pub run_given : (r : Run) (u x : Window) (a c : Option (List ℕ)) (kept now : List ℕ) → HasKept r u x a c kept now
    → HasGiven u x a c kept now
run_given r u x a c kept now h = record {
  dropped = h.of_run.dropped;
  taken = h.of_run.taken;
  appended = h.appended;
}

-- ---- what the code tests

pub inside_of : (past : Bool) (n m : ℕ) → (past ≡ true) ↔ (n < m) → past ≡ false → m ≤ n
inside_of past n m told fails =
    let one : (m ≤ n) ⊎ (n < m) = grind arith in
    elim one [
      | inl within ↦ within
      | inr above ↦ absurd (differ past (told.1 above) fails)
    ]
  where
    differ : (b : Bool) → b ≡ true → b ≡ false → ⊥
    differ b h k = cc

pub not_past : (past : Bool) → not past ≡ true → past ≡ false
not_past true h = cc
not_past false h = refl
