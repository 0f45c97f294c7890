-- What a token tells behind others, by the sections that go on with it.
use Rattle.std.proofs.Common.{◌≡◌, ℕ, zero, suc, ◌+◌, ◌≤◌, ◌≢◌, ◌-◌, ◌↔◌, Bool, true, false, eqb, List, [], ◌∷◌, ◌++◌}
use Rattle.std.proofs.Common.{map}
use Rattle.std.proofs.Common.{refl, sym, ap, ◌∙◌, subst, append_assoc, append-nil, length, arith, Option, Some, None}
use Rattle.std.proofs.Common.{IsTrue}
use Rattle.std.specs.Prelude.{slice_get}
use Rattle.std.specs.List.{flat_map}
use Rattle.std.proofs.lemmas.List.{map-append, length-map}
use Rattle.case_tables.specs.declared.word_table.Word.{Word}
use Rattle.grammar_theory.specs.Ebnf.{Tree, unit, numeral, none, some, nil, pair, node, place_of, Derives}
use Rattle.grammar_theory.specs.Ebnf.{is_both, is_named, is_no_tree}
use Rattle.grammar_theory.specs.LookAhead.{sample_token}
use Rattle.grammar_theory.proofs.Parts.{SomeTree}
use Rattle.unity_syntax.specs.Classes.{reserved, terminal, terminals}
use Rattle.unity_syntax.specs.Kinds.{Kind, kind}
use Rattle.unity_syntax.specs.Grammar.{grammar, first, second, certificates_}
use Rattle.unity_syntax.specs.View.{view_certificates}
use Rattle.unity_syntax.specs.declared.token.Token.{Token}
use Rattle.unity_syntax.specs.declared.certificate.Pair.{Pair}
use Rattle.unity_syntax.specs.declared.certificate.Node.{Node}
use Rattle.unity_syntax.specs.declared.certificate.CertText.{CertText}
use Rattle.unity_syntax.specs.declared.certificate.Certificates.{Certificates}
use Rattle.unity_syntax.specs.declared.document.Document.{Document}
use Rattle.unity_syntax.proofs.BackDocuments.{view_injective}
use Rattle.unity_syntax.proofs.Productions.{all_productions}
use Rattle.unity_base.specs.declared.events.CertEvent.{CertEvent}
use Rattle.certificate_events.specs.declared.signs.Sign.{Sign}
use Rattle.certificate_events.specs.declared.places.Plain.{Plain}
use Rattle.certificate_events.specs.declared.places.Signed.{Signed}
use Rattle.certificate_events.specs.declared.places.Stage.{Stage}
use Rattle.certificate_events.specs.declared.places.Place.{Place}
use Rattle.certificate_events.specs.declared.reader.Taken.{Taken}
use Rattle.certificate_events.specs.declared.reader.CertReader.{CertReader}
use Rattle.certificate_events.specs.Signs.{sign_of, signs}
use Rattle.certificate_events.specs.Events.{minus_takes, pair_takes, number_takes, node_takes, certificate_takes}
use Rattle.certificate_events.specs.Events.{section_takes, events, pair_event, node_events, certificate_events}
use Rattle.certificate_events.specs.Steps.{Step, step, step_at, begun, nodes, nodes_of, node as node_step, reach}
use Rattle.certificate_events.specs.Steps.{answers, start, is_done}
use Rattle.certificate_events.specs.Sections.{IsSection, IsSections, ReaderStands, TokenTakes, told}
use Rattle.certificate_events.specs.Laws.{ToldByTokens, EventsOfSections}
use Rattle.certificate_events.proofs.SignLaws.{sign_on, signs_are}
use Rattle.certificate_events.proofs.Forms.{tail, rest_form}
use Rattle.certificate_events.proofs.Back.{at_stage, is_bad, bad_stays, back_all, one_token}
use Rattle.certificate_events.proofs.Along.{section_leads}
use Rattle.certificate_events.proofs.Finish.{ending, ends}

-- Lists of signs.

pub signs_append : (later : Bool) (ts us : List Token) → signs later (ts ++ us) ≡ signs later ts ++ signs later us
signs_append later ts us = map-append (λ (t : Token). sign_of later t.kind) ts us

pub reach_more : (p : Place) (ss us : List Sign) → reach p (ss ++ us) ≡ reach (reach p ss) us
reach_more p [] us = refl
reach_more p (s ∷ ss) us = reach_more (step p s).0 ss us

pub answers_more : (p : Place) (ss us : List Sign) → answers p (ss ++ us) ≡ answers p ss ++ answers (reach p ss) us
answers_more p [] us = refl
answers_more p (s ∷ ss) us = ap (λ xs. (step p s).1 ∷ xs) (answers_more (step p s).0 ss us)

answer_at : (p : Place) (ss : List Sign) (s : Sign) (us : List Sign) →
    slice_get (answers p (ss ++ s ∷ us)) (length ss) ≡ Some (step (reach p ss) s).1
answer_at p [] s us = refl
answer_at p (x ∷ ss) s us = answer_at (step p x).0 ss s us

-- where one more token leads, and what it tells
pub one_more : (later : Bool) (ts : List Token) (t : Token) →
    reach start (signs later (ts ++ t ∷ [])) ≡ (step (reach start (signs later ts)) (sign_of later t.kind)).0
one_more later ts t = ap (reach start) (signs_append later ts (t ∷ []))
    ∙ reach_more start (signs later ts) (sign_of later t.kind ∷ [])

pub told_more : (later : Bool) (ts : List Token) (t : Token) → told later (ts ++ t ∷ [])
    ≡ told later ts ++ (step (reach start (signs later ts)) (sign_of later t.kind)).1 ∷ []
told_more later ts t = ap (answers start) (signs_append later ts (t ∷ []))
    ∙ answers_more start (signs later ts) (sign_of later t.kind ∷ [])

-- what a reader makes of one more token
pub handed : (later : Bool) (r : CertReader) (ts : List Token) (t : Token) (q : Step) (s : Sign) →
    s ≡ sign_of r.later t.kind → q ≡ step r.place s → ReaderStands later r ts →
    q ≡ step (reach start (signs later ts)) (sign_of later t.kind)
handed later r ts t q s said made h = made ∙ ap (step r.place) said
    ∙ ap (λ l. step r.place (sign_of l t.kind)) h.version ∙ ap (λ p. step p (sign_of later t.kind)) h.place

-- The section of tokens.

same_section : (c e : Certificates) → view_certificates c ≡ view_certificates e → c ≡ e
same_section c e h = inner c e (ap sections (view_injective (with c) (with e) (ap inside h)))
  where
    with : Certificates → Document
    with c = record { at = 0; number_at = 0; number = 0; parts = []; schedule = None; certificates = Some c }

    inside : Tree → Tree
    inside x = node (kind Kind.document) 0 (pair (node (kind Kind.version) 0 (numeral 0))
        (pair nil (pair none (some x))))

    sections : Document → Option Certificates
    sections d = d.certificates

    inner : (c e : Certificates) → ◌≡◌ {A = Option Certificates} (Some c) (Some e) → c ≡ e
    inner c e h = cc

-- where a section's tokens lead, and what they tell
record Led (later : Bool) (ts : List Token) (c : Certificates) : Type 0 where
  last : ℕ
  there : reach start (signs later ts) ≡ at_stage Stage.Done 0 last
  tells : answers start (signs later ts) ≡ section_takes c

led : (later : Bool) (ts : List Token) (c : Certificates) → IsSection later ts c → Led later ts c
led later ts c i =
    let l = section_leads i.word i.derives in
    let same = signs_are later i.bytes ts in record {
      last = l.last;
      there = ap (reach start) same ∙ l.leads.there;
      tells = ap (answers start) same ∙ l.leads.tells ∙ ap section_takes (same_section l.section c l.is);
    }

pub told_by_tokens : ToldByTokens
told_by_tokens later ts c i = (led later ts c i).tells

-- tokens behind which a section may end are a section
section_of : (later : Bool) (ts : List Token) → SomeTree grammar (tail 0) (terminals later [] ts) → IsSections later ts
unfolding all_productions
section_of later ts s =
    let word = sample_token (reserved Word.Certificates) 0 in
    let tree = first (place_of (terminals later [] ts)) s.tree in
    let d : Derives grammar certificates_ _ (word ∷ terminals later [] ts) =
    is_named {action = node (kind Kind.certificates)} (is_named {action = second} {x = pair unit tree}
    (is_both (one_token (reserved Word.Certificates) word refl) (is_named {action = first} {x = s.tree} s.derives refl)
    refl) refl) refl in
    let l = section_leads word d in (
      l.section,
      record {
        bytes = [];
        word = word;
        is_word = refl;
        derives = subst (λ x. Derives grammar certificates_ x (word ∷ terminals later [] ts)) (sym l.is) d;
      },
    )

-- What is refused is bad.

abbrev is_unexpected : Taken → Bool
is_unexpected Taken.Unexpected = true
is_unexpected a = false

abbrev Agrees : Step → Type 0
Agrees q = is_unexpected q.1 ≡ is_bad q.0.stage

agrees_node : (p : Place) (n : ℕ) (s : Sign) → Agrees (node_step p n s)
agrees_node p n Sign.Case = refl
agrees_node p n s = refl

agrees_nodes : (p : Place) (m : ℕ) (s : Sign) → Agrees (nodes_of p m s)
agrees_nodes p zero Sign.Semicolon = refl
agrees_nodes p zero s = refl
agrees_nodes p (suc m) s = agrees_node p m s

agrees_begun : (p : Place) (b : Bool) → Agrees (begun p b)
agrees_begun p true = refl
agrees_begun p false = refl

agrees : (st : Stage) (p : Place) (s : Sign) → Agrees (step_at st p s)
agrees Stage.Between p (Sign.Number n) = agrees_begun p (eqb n (p.number + 1))
agrees Stage.Between p s = refl
agrees Stage.Numbered p Sign.Colon = refl
agrees Stage.Numbered p s = refl
agrees Stage.Nodes p s = agrees_nodes p p.missing s
agrees Stage.Pairs p Sign.Minus = refl
agrees Stage.Pairs p (Sign.Number n) = refl
agrees Stage.Pairs p s = agrees_nodes p p.missing s
agrees (Stage.Plain Plain.Case) p (Sign.Number n) = refl
agrees (Stage.Plain Plain.Variable) p (Sign.Number n) = refl
agrees (Stage.Plain Plain.Quot) p (Sign.Number n) = refl
agrees (Stage.Plain (Plain.Fact z)) p (Sign.Number n) = refl
agrees (Stage.Plain a) p s = refl
agrees (Stage.Signed a) p Sign.Minus = refl
agrees (Stage.Signed (Signed.Bound v)) p (Sign.Number n) = refl
agrees (Stage.Signed Signed.Divisor) p (Sign.Number n) = refl
agrees (Stage.Signed Signed.Constant) p (Sign.Number n) = refl
agrees (Stage.Signed Signed.Multiplier) p (Sign.Number n) = refl
agrees (Stage.Signed a) p s = refl
agrees (Stage.Negative (Signed.Bound v)) p (Sign.Number n) = refl
agrees (Stage.Negative Signed.Divisor) p (Sign.Number n) = refl
agrees (Stage.Negative Signed.Constant) p (Sign.Number n) = refl
agrees (Stage.Negative Signed.Multiplier) p (Sign.Number n) = refl
agrees (Stage.Negative a) p s = refl
agrees (Stage.Times k) p Sign.Times = refl
agrees (Stage.Times k) p s = refl
agrees Stage.Done p s = refl
agrees Stage.Bad p s = refl

-- What a token tells.

module _ (later : Bool) (ts : List Token) (t : Token) where
  abbrev place_then : Place
  place_then = reach start (signs later ts)

  abbrev then_step : Step
  then_step = step place_then (sign_of later t.kind)

  whole_signs : (rest : List Token) → signs later (ts ++ t ∷ rest)
      ≡ signs later ts ++ sign_of later t.kind ∷ signs later rest
  whole_signs rest = signs_append later ts (t ∷ rest)

  -- no section goes on with what is refused
  none_goes_on : is_bad then_step.0.stage ≡ true → (rest : List Token) (c : Certificates) →
      IsSection later (ts ++ t ∷ rest) c → ⊥
  none_goes_on bad rest c i =
      let l = led later (ts ++ t ∷ rest) c i in
      let there : reach start (signs later (ts ++ t ∷ rest)) ≡ reach then_step.0 (signs later rest) =
      ap (reach start) (whole_signs rest)
      ∙ reach_more start (signs later ts) (sign_of later t.kind ∷ signs later rest) in
      let stays : is_bad (reach then_step.0 (signs later rest)).stage ≡ true =
      bad_stays (signs later rest) then_step.0 bad in
      let good : is_bad (reach start (signs later (ts ++ t ∷ rest))).stage ≡ false =
      ap (λ (p : Place). is_bad p.stage) l.there in
      let both : is_bad (reach start (signs later (ts ++ t ∷ rest))).stage ≡ true =
      ap (λ (p : Place). is_bad p.stage) there ∙ stays in
      cc (good, both)

  -- a section goes on with what is not, and has it there
  some_goes_on : is_bad then_step.0.stage ≡ false → (rest : List Token) × (c : Certificates)
      × IsSection later (ts ++ t ∷ rest) c × (slice_get (section_takes c) (length ts) ≡ Some then_step.1)
  some_goes_on good =
      let rest = ending then_step.0 in
      let front = terminals later [] (ts ++ t ∷ []) in
      let there : reach start (map sign_on front) ≡ then_step.0 =
      ap (reach start) (sym (signs_are later [] (ts ++ t ∷ []))) ∙ one_more later ts t in
      let more = ends later [] then_step.0 good in
      let whole : SomeTree grammar (tail 0) (front ++ terminals later [] rest) =
      back_all front (terminals later [] rest) start (ap (λ (p : Place). is_bad p.stage) there ∙ good)
      (subst (λ p. SomeTree grammar (rest_form p) (terminals later [] rest)) (sym there) more) in
      let joined : front ++ terminals later [] rest ≡ terminals later [] (ts ++ t ∷ rest) =
      sym (map-append (terminal later []) (ts ++ t ∷ []) rest)
      ∙ ap (terminals later []) (append_assoc ts (t ∷ []) rest) in
      let found = section_of later (ts ++ t ∷ rest) (subst (λ us. SomeTree grammar (tail 0) us) joined whole) in
      let l = led later (ts ++ t ∷ rest) found.0 found.1 in (
        rest,
        found.0,
        found.1,
        ap (λ xs. slice_get xs (length ts)) (sym l.tells ∙ ap (answers start) (whole_signs rest))
            ∙ ap (slice_get (answers start (signs later ts ++ sign_of later t.kind ∷ signs later rest)))
            (sym (length-map ts (λ (t : Token). sign_of later t.kind)))
            ∙ answer_at start (signs later ts) (sign_of later t.kind) (signs later rest),
      )

  takes_as : (a : Taken) → then_step.1 ≡ a → TokenTakes later ts t a
  takes_as Taken.Unexpected e =
      none_goes_on (sym (agrees place_then.stage place_then (sign_of later t.kind)) ∙ ap is_unexpected e)
  takes_as Taken.Nothing e =
      let g = some_goes_on (sym (agrees place_then.stage place_then (sign_of later t.kind)) ∙ ap is_unexpected e) in
      (g.0, g.1, g.2, g.3 ∙ ap (λ a. Some a) e)
  takes_as (Taken.Event v) e =
      let g = some_goes_on (sym (agrees place_then.stage place_then (sign_of later t.kind)) ∙ ap is_unexpected e) in
      (g.0, g.1, g.2, g.3 ∙ ap (λ a. Some a) e)

  pub takes_is : TokenTakes later ts t (step (reach start (signs later ts)) (sign_of later t.kind)).1
  takes_is = takes_as then_step.1 refl

-- The end of a section.

done_is : (later : Bool) (ts : List Token) (p : Place) → reach start (signs later ts) ≡ p → is_done p.stage ≡ true →
    IsSections later ts
done_is later ts p there done =
    section_of later ts (subst (λ us. SomeTree grammar (tail 0) us) (append-nil (terminals later [] ts))
    (back_all (terminals later [] ts) [] start (ap (λ (p : Place). is_bad p.stage) here ∙ by_stage p.stage done)
    (subst (λ p. SomeTree grammar (rest_form p) []) (sym here) (at_end p.stage p.missing p.number done))))
  where
    here : reach start (map sign_on (terminals later [] ts)) ≡ p
    here = ap (reach start) (sym (signs_are later [] ts)) ∙ there

    by_stage : (st : Stage) → is_done st ≡ true → is_bad st ≡ false
    by_stage Stage.Bad d = cc
    by_stage Stage.Done d = refl
    by_stage st d = refl

    at_end : (st : Stage) (m k : ℕ) → is_done st ≡ true → SomeTree grammar (rest_form (at_stage st m k)) []
    at_end Stage.Done m k d = record { tree = nil; derives = is_no_tree }
    at_end st m k d = cc

pub finished_is : (later : Bool) (ts : List Token) →
    IsTrue (is_done (reach start (signs later ts)).stage) ↔ IsSections later ts
finished_is later ts = (
  done_is later ts (reach start (signs later ts)) refl,
  λ c. ap (λ (p : Place). is_done p.stage) (led later ts c.0 c.1).there,
)

-- How far the numbers of a place rise.

record Bounded (p : Place) (q : Step) : Type 0 where
  missing : q.0.missing ≤ p.missing + 1
  number : q.0.number ≤ p.number + 1

pub nodes_some : (p : Place) (s : Sign) → p.missing ≢ 0 → node_step p (p.missing - 1) s ≡ nodes p s
nodes_some p s h = by_missing p.missing h
  where
    by_missing : (m : ℕ) → m ≢ 0 → node_step p (m - 1) s ≡ nodes_of p m s
    by_missing zero h = absurd (h refl)
    by_missing (suc m) h = let e : suc m - 1 ≡ m = omega arith in ap (λ n. node_step p n s) e

same : (p : Place) (st : Stage) → Bounded p (record p { stage = st }, Taken.Nothing)
same p st = record { missing = omega arith; number = omega arith }

bounded_node : (p : Place) (n : ℕ) (s : Sign) → suc n ≡ p.missing → Bounded p (node_step p n s)
bounded_node p n Sign.Case e = record { missing = omega (arith, e); number = omega arith }
bounded_node p n Sign.Split e = record { missing = omega (arith, e); number = omega arith }
bounded_node p n Sign.Sum e = record { missing = omega (arith, e); number = omega arith }
bounded_node p n Sign.Round e = record { missing = omega (arith, e); number = omega arith }
bounded_node p n Sign.Quot e = record { missing = omega (arith, e); number = omega arith }
bounded_node p n Sign.Share e = record { missing = omega (arith, e); number = omega arith }
bounded_node p n s e = let i = same p Stage.Bad in record { missing = i.missing; number = i.number }

bounded_nodes : (p : Place) (m : ℕ) (s : Sign) → m ≡ p.missing → Bounded p (nodes_of p m s)
bounded_nodes p zero Sign.Semicolon e =
    let i = same p Stage.Between in record { missing = i.missing; number = i.number }
bounded_nodes p zero s e = let i = same p Stage.Bad in record { missing = i.missing; number = i.number }
bounded_nodes p (suc m) s e = bounded_node p m s e

bounded_begun : (p : Place) (b : Bool) → Bounded p (begun p b)
bounded_begun p true = record { missing = omega arith; number = omega arith }
bounded_begun p false = let i = same p Stage.Bad in record { missing = i.missing; number = i.number }

abbrev Kept : Place → Step → Type 0
Kept p q = (q.0.missing ≡ p.missing) × (q.0.number ≡ p.number)

kept : (p : Place) (q : Step) → Kept p q → Bounded p q
kept p q k = let m = k.0 in let n = k.1 in record { missing = omega (arith, m); number = omega (arith, n) }

kept_plain : (a : Plain) (p : Place) (s : Sign) → Kept p (step_at (Stage.Plain a) p s)
kept_plain Plain.Case p (Sign.Number n) = (refl, refl)
kept_plain Plain.Variable p (Sign.Number n) = (refl, refl)
kept_plain Plain.Quot p (Sign.Number n) = (refl, refl)
kept_plain (Plain.Fact z) p (Sign.Number n) = (refl, refl)
kept_plain a p s = (refl, refl)

kept_signed : (a : Signed) (p : Place) (s : Sign) → Kept p (step_at (Stage.Signed a) p s)
kept_signed (Signed.Bound v) p (Sign.Number n) = (refl, refl)
kept_signed Signed.Divisor p (Sign.Number n) = (refl, refl)
kept_signed Signed.Constant p (Sign.Number n) = (refl, refl)
kept_signed Signed.Multiplier p (Sign.Number n) = (refl, refl)
kept_signed a p Sign.Minus = (refl, refl)
kept_signed a p s = (refl, refl)

kept_negative : (a : Signed) (p : Place) (s : Sign) → Kept p (step_at (Stage.Negative a) p s)
kept_negative (Signed.Bound v) p (Sign.Number n) = (refl, refl)
kept_negative Signed.Divisor p (Sign.Number n) = (refl, refl)
kept_negative Signed.Constant p (Sign.Number n) = (refl, refl)
kept_negative Signed.Multiplier p (Sign.Number n) = (refl, refl)
kept_negative a p s = (refl, refl)

bounded : (st : Stage) (p : Place) (s : Sign) → Bounded p (step_at st p s)
bounded Stage.Between p (Sign.Number n) = bounded_begun p (eqb n (p.number + 1))
bounded Stage.Between p Sign.End = kept p _ (refl, refl)
bounded Stage.Between p s = kept p _ (refl, refl)
bounded Stage.Numbered p Sign.Colon = record { missing = omega arith; number = omega arith }
bounded Stage.Numbered p s = kept p _ (refl, refl)
bounded Stage.Nodes p s = bounded_nodes p p.missing s refl
bounded Stage.Pairs p Sign.Minus = kept p _ (refl, refl)
bounded Stage.Pairs p (Sign.Number n) = kept p _ (refl, refl)
bounded Stage.Pairs p s = bounded_nodes p p.missing s refl
bounded (Stage.Plain a) p s = kept p _ (kept_plain a p s)
bounded (Stage.Signed a) p s = kept p _ (kept_signed a p s)
bounded (Stage.Negative a) p s = kept p _ (kept_negative a p s)
bounded (Stage.Times k) p Sign.Times = kept p _ (refl, refl)
bounded (Stage.Times k) p s = kept p _ (refl, refl)
bounded Stage.Done p s = kept p _ (refl, refl)
bounded Stage.Bad p s = kept p _ (refl, refl)

pub missing_bound : (p : Place) (s : Sign) (n : ℕ) → p.missing ≤ n → (step p s).0.missing ≤ n + 1
missing_bound p s n h = let b = (bounded p.stage p s).missing in omega (arith, b)

pub number_bound : (p : Place) (s : Sign) (n : ℕ) → p.number ≤ n → (step p s).0.number ≤ n + 1
number_bound p s n h = let b = (bounded p.stage p s).number in omega (arith, b)

-- The events alone.

events_append : (xs ys : List Taken) → events (xs ++ ys) ≡ events xs ++ events ys
events_append [] ys = refl
events_append (Taken.Nothing ∷ xs) ys = events_append xs ys
events_append (Taken.Event e ∷ xs) ys = ap (λ es. e ∷ es) (events_append xs ys)
events_append (Taken.Unexpected ∷ xs) ys = events_append xs ys

each_event : {A : Type 0} (f : A → List Taken) (g : A → List CertEvent) → ((x : A) → events (f x) ≡ g x) →
    (xs : List A) → events (flat_map f xs) ≡ flat_map g xs
each_event f g h [] = refl
each_event f g h (x ∷ xs) = events_append (f x) (flat_map f xs) ∙ ap (λ es. es ++ events (flat_map f xs)) (h x)
    ∙ ap (λ es. g x ++ es) (each_event f g h xs)

minus_silent : (b : Bool) (xs : List Taken) → events (minus_takes b ++ xs) ≡ events xs
minus_silent true xs = refl
minus_silent false xs = refl

pairs_events : (ps : List Pair) → events (flat_map pair_takes ps) ≡ map pair_event ps
pairs_events [] = refl
pairs_events (p ∷ ps) = events_append (pair_takes p) (flat_map pair_takes ps)
    ∙ ap (λ es. es ++ events (flat_map pair_takes ps)) (minus_silent p.minus _)
    ∙ ap (λ es. pair_event p ∷ es) (pairs_events ps)

with_pairs : (b : Bool) (e : CertEvent) (ps : List Pair) →
    events (number_takes b e ++ flat_map pair_takes ps) ≡ e ∷ map pair_event ps
with_pairs b e ps = events_append (number_takes b e) (flat_map pair_takes ps)
    ∙ ap (λ es. es ++ events (flat_map pair_takes ps)) (minus_silent b (Taken.Event e ∷ []))
    ∙ ap (λ es. e ∷ es) (pairs_events ps)

one_node_events : (n : Node) → events (node_takes n) ≡ node_events n
one_node_events (Node.Case at k) = refl
one_node_events (Node.Split at v minus b) = minus_silent minus _
one_node_events (Node.Sum at ps) = ap (λ es. CertEvent.Sum ∷ es) (pairs_events ps)
one_node_events (Node.Round at minus d ps) = with_pairs minus _ ps
one_node_events (Node.Quot at k) = refl
one_node_events (Node.Share at minus c ps) = with_pairs minus _ ps

one_certificate : (c : CertText) → events (certificate_takes c) ≡ certificate_events c
one_certificate c = ap (λ es. CertEvent.Begin ∷ es)
    (events_append (flat_map node_takes (c.first ∷ c.rest)) (Taken.Event CertEvent.End ∷ [])
    ∙ ap (λ es. es ++ CertEvent.End ∷ []) (each_event node_takes node_events one_node_events (c.first ∷ c.rest)))

pub events_of_sections : EventsOfSections
events_of_sections c = events_append (flat_map certificate_takes c.items) (Taken.Event CertEvent.Last ∷ [])
    ∙ ap (λ es. es ++ CertEvent.Last ∷ []) (each_event certificate_takes certificate_events one_certificate c.items)
