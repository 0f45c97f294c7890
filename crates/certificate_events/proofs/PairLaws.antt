-- The three tokens of a pair lead from a place where a pair may stand to the same place.
use Rattle.std.proofs.Common.{◌≡◌, ℕ, Bool, true, false, List, [], ◌∷◌, ◌++◌, refl, sym, ap, ◌∙◌, subst, append_assoc}
use Rattle.case_tables.specs.declared.symbol_table.Symbol.{Symbol}
use Rattle.unity_base.specs.declared.events.CertEvent.{CertEvent}
use Rattle.unity_syntax.specs.declared.token.Token.{Token}
use Rattle.unity_syntax.specs.declared.token.TokenKind.{TokenKind}
use Rattle.certificate_events.specs.declared.signs.Sign.{Sign}
use Rattle.certificate_events.specs.declared.places.Plain.{Plain}
use Rattle.certificate_events.specs.declared.places.Stage.{Stage}
use Rattle.certificate_events.specs.declared.places.Place.{Place}
use Rattle.certificate_events.specs.declared.reader.Taken.{Taken}
use Rattle.certificate_events.specs.declared.reader.CertReader.{CertReader}
use Rattle.certificate_events.specs.Events.{number_of}
use Rattle.certificate_events.specs.Signs.{sign_of, signs}
use Rattle.certificate_events.specs.Steps.{step, reach, answers, start}
use Rattle.certificate_events.specs.Sections.{IsSection, IsSections, ReaderStands, TokenTakes, told}
use Rattle.certificate_events.specs.Pairs.{is_pairs, IsPairOf, TakesPair}
use Rattle.certificate_events.proofs.SectionLaws.{signs_append, reach_more, answers_more, takes_is}

is_pairs_stage : (st : Stage) → is_pairs st ≡ true → st ≡ Stage.Pairs
is_pairs_stage Stage.Pairs e = refl
is_pairs_stage st e = cc

-- a place of this stage
abbrev at : Stage → Place → Place
at st p = record p { stage = st }

at_own : (p : Place) (st : Stage) → p.stage ≡ st → at st p ≡ p
at_own p st e = ap (λ st. at st p) (sym e)

abbrev pair_signs : ℕ → ℕ → List Sign
pair_signs by number = Sign.Number by ∷ Sign.Times ∷ Sign.Number number ∷ []

abbrev pair_told : ℕ → ℕ → List Taken
pair_told by number =
    Taken.Nothing ∷ Taken.Nothing ∷ Taken.Event (CertEvent.Pair (number_of false by) number) ∷ []

pair_reach : (p : Place) (by number : ℕ) → reach (at Stage.Pairs p) (pair_signs by number) ≡ at Stage.Pairs p
pair_reach p by number = refl

pair_answers : (p : Place) (by number : ℕ) → answers (at Stage.Pairs p) (pair_signs by number) ≡ pair_told by number
pair_answers p by number = refl

-- one token of some section
opens_with : (later : Bool) (us : List Token) (c : Token) (e : CertEvent) → TokenTakes later us c (Taken.Event e)
    → (rest : List Token) × IsSections later (us ++ c ∷ rest)
opens_with later us c e takes = (takes.0, (takes.1, takes.2))

module _ (later : Bool) (old new : CertReader) (ts ps : List Token) (by number : ℕ) (pair : IsPairOf by number ps)
    (stands : ReaderStands later old ts) (awaits : is_pairs old.place.stage ≡ true) (same : new.place ≡ old.place)
    (version : new.later ≡ old.later) where
  abbrev a : Token
  a = pair.first

  abbrev b : Token
  b = pair.times

  abbrev c : Token
  c = pair.second

  abbrev three : List Token
  three = a ∷ b ∷ c ∷ []

  abbrev there : Place
  there = reach start (signs later ts)

  stage_is : there.stage ≡ Stage.Pairs
  stage_is = ap (λ (p : Place). p.stage) (sym stands.place) ∙ is_pairs_stage old.place.stage awaits

  there_is : at Stage.Pairs there ≡ there
  there_is = at_own there Stage.Pairs stage_is

  a_says : sign_of later a.kind ≡ Sign.Number by
  a_says = ap (sign_of later) pair.first_is

  b_says : sign_of later b.kind ≡ Sign.Times
  b_says = ap (sign_of later) pair.times_is

  c_says : sign_of later c.kind ≡ Sign.Number number
  c_says = ap (sign_of later) pair.second_is

  signs_are : signs later three ≡ pair_signs by number
  signs_are = λ i. a_says i ∷ b_says i ∷ c_says i ∷ []

  leads : reach there (signs later three) ≡ there
  leads =
      ap (reach there) signs_are ∙ ap (λ p. reach p (pair_signs by number)) (sym there_is)
      ∙ pair_reach there by number ∙ there_is

  tells : answers there (signs later three) ≡ pair_told by number
  tells =
      ap (answers there) signs_are ∙ ap (λ p. answers p (pair_signs by number)) (sym there_is)
      ∙ pair_answers there by number

  -- the last of them, behind the two others
  abbrev front : List Token
  front = ts ++ a ∷ b ∷ []

  last_told : (step (reach start (signs later front)) (sign_of later c.kind)).1
      ≡ Taken.Event (CertEvent.Pair (number_of false by) number)
  last_told =
      let two : reach start (signs later front) ≡ reach there (Sign.Number by ∷ Sign.Times ∷ []) =
      ap (reach start) (signs_append later ts (a ∷ b ∷ []))
      ∙ reach_more start (signs later ts) (signs later (a ∷ b ∷ []))
      ∙ ap (reach there) (λ i. a_says i ∷ b_says i ∷ []) in
      ap (λ p. (step p (sign_of later c.kind)).1)
      (two ∙ ap (λ p. reach p (Sign.Number by ∷ Sign.Times ∷ [])) (sym there_is))
      ∙ ap (λ s. (step (reach (at Stage.Pairs there) (Sign.Number by ∷ Sign.Times ∷ [])) s).1) c_says

  goes : (rest : List Token) × IsSections later (front ++ c ∷ rest)
  goes =
      opens_with later front c (CertEvent.Pair (number_of false by) number)
      (subst (λ taken. TokenTakes later front c taken) last_told (takes_is later front c))

  with_three : TakesPair later new ts three (CertEvent.Pair (number_of false by) number)
  with_three = record {
    stands = record {
      version = version ∙ stands.version;
      place =
          same ∙ stands.place
          ∙ sym (ap (reach start) (signs_append later ts three)
          ∙ reach_more start (signs later ts) (signs later three) ∙ leads);
    };
    tells =
        ap (answers start) (signs_append later ts three)
        ∙ answers_more start (signs later ts) (signs later three)
        ∙ ap (λ xs. told later ts ++ xs) tells;
    opens = (
      goes.0,
      subst (λ us. IsSections later us)
          (append_assoc ts (a ∷ b ∷ []) (c ∷ goes.0) ∙ sym (append_assoc ts three goes.0)) goes.1,
    );
  }

  pub takes_pair : TakesPair later new ts ps (CertEvent.Pair (number_of false by) number)
  takes_pair =
      subst (λ us. TakesPair later new ts us (CertEvent.Pair (number_of false by) number)) (sym pair.are) with_three
