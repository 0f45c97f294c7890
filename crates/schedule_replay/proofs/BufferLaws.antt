-- A text that is put piece by piece.
use Rattle.std.proofs.Common.{◌≡◌, ◌+◌, ◌<◌, ◌++◌, ℕ, List, [], true, false, Option, Result, OnOk, OnErr, Ok, Err}
use Rattle.std.proofs.Common.{refl, sym, ap, ◌∙◌, subst, length, take, arith, append_assoc, append-nil}
use Rattle.std.specs.Prelude.{is_err}
use Rattle.std.proofs.lemmas.Grind.{common_steps}
use lib.Seq.{take-append-add}
use Rattle.std.specs.Io.KnownBytes.{Appends}
use Rattle.std.proofs.KnownBytes.{Appends-trans}
use Rattle.unity_base.specs.Streams.{AppendsPart, HasCause, Rose}
use Rattle.schedule_replay.specs.declared.buffer.Buffer.{Buffer}
use Rattle.schedule_replay.specs.Buffered.{waiting, IsSoFar, IsPut}

pub on_err : {T E : Type 0} (r : Result T E) (P : Type 0) → P → OnErr r P
on_err (Ok x) P p = tt
on_err (Err e) P p = p

-- a part of the first piece is a part of both
pub part_front : (a b : Option (List ℕ)) (p q : List ℕ) → AppendsPart a b p → AppendsPart a b (p ++ q)
part_front a b p q h = record {
  count = h.count;
  fewer = let k = h.count in let few : k < length p = h.fewer in grind (arith, common_steps);
  appends = let k = h.count in let few : k < length p = h.fewer in
      let front : take k (p ++ q) ≡ take k p = grind (arith, common_steps) in subst (Appends a b) (sym front)
      h.appends;
}

-- the first piece, and then a part of the second
pub part_after : (a b c : Option (List ℕ)) (p q : List ℕ) → Appends a b p → AppendsPart b c q → AppendsPart a c
    (p ++ q)
part_after a b c p q first h = record {
  count = length p + h.count;
  fewer = let k = h.count in let few : k < length q = h.fewer in grind (arith, common_steps);
  appends = subst (Appends a c) (sym (take-append-add p q h.count)) (Appends-trans a b c p _ first h.appends);
}

-- after a first piece, the second one fails in part or not at all
pub part_second : {T E : Type 0} (a b c : Option (List ℕ)) (p q : List ℕ) (r : Result T E) → Appends a b p →
    OnErr r (AppendsPart b c q) → OnErr r (AppendsPart a c (p ++ q))
part_second a b c p q (Ok x) first h = tt
part_second a b c p q (Err e) first h = part_after a b c p q first h

-- what waited and a piece were written, or a write failed
pub sent_both : {T E : Type 0} (old new : Option (List ℕ)) (before after : ℕ) (b c : Buffer) (piece : List ℕ)
    (r : Result T E) →
    b.failed ≡ false → OnOk r (Appends old new (waiting b ++ piece)) → OnErr r
    (AppendsPart old new (waiting b ++ piece)) →
    HasCause before after r → c.failed ≡ is_err r → waiting c ≡ [] → IsPut old new before after b c piece
sent_both old new before after b c piece (Ok x) whole_before wrote part cause good empty = record {
  adds = λ first count front s.
      let sent = s.sent whole_before in
      let text : sent.sent ++ (waiting b ++ piece) ≡ front ++ piece =
      sym (append_assoc sent.sent (waiting b) piece) ∙ ap (λ t. t ++ piece) (sym sent.whole) in
      record {
        sent = λ _. record {
          sent = front ++ piece;
          appended = subst (Appends first new) text (Appends-trans first old new _ _ sent.appended wrote);
          whole = sym (ap (λ w. (front ++ piece) ++ w) empty ∙ append-nil (front ++ piece));
        };
        same = λ _. cause.same refl ∙ s.same whole_before;
        part = λ e. let never : false ≡ true = sym good ∙ e in cc;
        rose = λ e. let never : false ≡ true = sym good ∙ e in cc;
        later = omega (arith, s.later, cause.later);
      };
}
sent_both old new before after b c piece (Err x) whole_before wrote part cause bad empty = record {
  adds = λ first count front s.
      let sent = s.sent whole_before in
      let text : sent.sent ++ (waiting b ++ piece) ≡ front ++ piece =
      sym (append_assoc sent.sent (waiting b) piece) ∙ ap (λ t. t ++ piece) (sym sent.whole) in
      record {
        sent = λ e. let never : true ≡ false = sym bad ∙ e in cc;
        same = λ e. let never : true ≡ false = sym bad ∙ e in cc;
        part = λ _. subst (AppendsPart first new) text (part_after first old new _ _ sent.appended part);
        rose = λ _. subst (λ n. Rose n after) (s.same whole_before) (cause.rose refl);
        later = omega (arith, s.later, cause.later);
      };
}

-- nothing was put
pub put_nothing : (old : Option (List ℕ)) (before : ℕ) (b : Buffer) → IsPut old old before before b b []
put_nothing old before b = record {
  adds = λ first count front s. subst (IsSoFar first old count before b) (sym (append-nil front)) s;
}

-- one text was put and then another
pub put_then : {old mid new : Option (List ℕ)} {before between after : ℕ} {b c d : Buffer} {s t : List ℕ} →
    IsPut old mid before between b c s → IsPut mid new between after c d t → IsPut old new before after b d (s ++ t)
put_then {old} {mid} {new} {before} {between} {after} {b} {c} {d} {s} {t} one two = record {
  adds = λ first count front h.
      subst (IsSoFar first new count after d) (append_assoc front s t)
      (two.adds first count (front ++ s) (one.adds first count front h));
}

pub put_same : {old new : Option (List ℕ)} {before after : ℕ} {b c : Buffer} {s t : List ℕ} → s ≡ t →
    IsPut old new before after b c s → IsPut old new before after b c t
put_same {old} {new} {before} {after} {b} {c} e h = subst (IsPut old new before after b c) e h

-- a whole line was put into an empty buffer and written
pub line_whole : {T E : Type 0} {old mid : Option (List ℕ)} {before between : ℕ} {b c : Buffer} {text : List ℕ}
    (new : Option (List ℕ)) (r : Result T E) →
    ((o : Option (List ℕ)) (n : ℕ) → IsSoFar o o n n b []) → IsPut old mid before between b c text →
    OnOk r ((o : Option (List ℕ)) (n : ℕ) (t : List ℕ) → IsSoFar o mid n between c t → Appends o new t) →
    OnOk r (Appends old new text)
line_whole {T} {E} {old} {mid} {before} {between} {b} {c} {text} new (Ok x) fresh put done =
    done old before text (put.adds old before [] (fresh old before))
line_whole new (Err e) fresh put done = tt

pub line_part : {T E : Type 0} {old mid : Option (List ℕ)} {before between : ℕ} {b c : Buffer} {text : List ℕ}
    (new : Option (List ℕ)) (r : Result T E) →
    ((o : Option (List ℕ)) (n : ℕ) → IsSoFar o o n n b []) → IsPut old mid before between b c text →
    OnErr r ((o : Option (List ℕ)) (n : ℕ) (t : List ℕ) → IsSoFar o mid n between c t → AppendsPart o new t) →
    OnErr r (AppendsPart old new text)
line_part new (Ok x) fresh put done = tt
line_part {T} {E} {old} {mid} {before} {between} {b} {c} {text} new (Err e) fresh put done =
    done old before text (put.adds old before [] (fresh old before))

pub line_cause : {T E : Type 0} {old mid : Option (List ℕ)} {before between after : ℕ} {b c : Buffer}
    {text : List ℕ} (r : Result T E) →
    ((o : Option (List ℕ)) (n : ℕ) → IsSoFar o o n n b []) → IsPut old mid before between b c text →
    ((o : Option (List ℕ)) (n : ℕ) (t : List ℕ) → IsSoFar o mid n between c t → HasCause n after r) →
    HasCause before after r
line_cause {T} {E} {old} {mid} {before} {between} {after} {b} {c} {text} r fresh put done =
    done old before text (put.adds old before [] (fresh old before))
