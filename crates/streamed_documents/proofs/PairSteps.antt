-- Pairs that are read one after the other, and what they add to the tokens before them.
use Rattle.std.proofs.Common.{◌≡◌, ℕ, Bool, List, [], ◌∷◌, ◌++◌, Option, Some, refl, sym, ap, ◌∙◌, subst}
use Rattle.std.proofs.Common.{append_assoc, append-nil}
use Rattle.unity_base.specs.declared.events.CertEvent.{CertEvent}
use Rattle.unity_base.specs.declared.window.Window.{Window}
use Rattle.unity_base.specs.Window.{coming}
use Rattle.unity_syntax.specs.declared.token.Token.{Token}
use Rattle.unity_lexer.specs.declared.pairs.PairTokens.{PairTokens}
use Rattle.unity_lexer.specs.Pairs.{ReadsPair}
use Rattle.certificate_events.specs.declared.reader.Taken.{Taken}
use Rattle.certificate_events.specs.declared.reader.CertReader.{CertReader}
use Rattle.certificate_events.specs.Events.{events}
use Rattle.certificate_events.specs.Pairs.{IsPairOf, TakesPair}
use Rattle.certificate_events.specs.Sections.{ReaderStands, told}
use Rattle.front_documents.specs.Laws.{BeginsSections}
use Rattle.streamed_documents.specs.declared.behind.Pending.{Pending}
use Rattle.streamed_documents.specs.Hearing.{Hears, MayHear}
use Rattle.streamed_documents.specs.Pairs.{HearsMore}
use Rattle.streamed_documents.proofs.Hearings.{hears_none, hears_then}
use Rattle.streamed_documents.proofs.SectionSteps.{GoesOn, events_append}
use Rattle.streamed_documents.proofs.Skimming.{reads_join, start_reads}

-- nothing
pub more_none : (later : Bool) (w : Window) (left : Option (List ℕ)) (reader : CertReader) (p : Pending)
    → MayHear p → HearsMore later w w left reader reader p p
more_none later w left reader p may bytes e = record {
  tokens = [];
  tells = [];
  reads = start_reads w.at bytes (coming w left) e;
  takes = λ ts stands opens. record {
    stands = subst (λ us. ReaderStands later reader us) (sym (append-nil ts)) stands;
    opens = subst (λ us. BeginsSections later us) (sym (append-nil ts)) opens;
    told_is = ap (told later) (append-nil ts) ∙ sym (append-nil (told later ts));
  };
  heard = hears_none p may;
}

-- a pair
pub more_pair : (later : Bool) (w x : Window) (left : Option (List ℕ)) (old new : CertReader) (p q : Pending)
    (pair : PairTokens) (e : CertEvent)
    → ((left : Option (List ℕ)) (bytes : List ℕ) → coming w left ≡ Some bytes →
    ReadsPair w.at bytes pair x.at (coming x left))
    → ((later : Bool) (ts ps : List Token) → IsPairOf pair.by pair.number ps → ReaderStands later old ts →
    TakesPair later new ts ps e)
    → Hears p q (e ∷ []) → HearsMore later w x left old new p q
more_pair later w x left old new p q pair e reads takes hears bytes told =
    let r = reads left bytes told in
    let ps = r.by ∷ r.times ∷ r.number ∷ [] in
    let is : IsPairOf pair.by pair.number ps = record {
      first = r.by;
      times = r.times;
      second = r.number;
      are = refl;
      first_is = r.by_is;
      times_is = r.times_is;
      second_is = r.number_is;
    } in record {
      tokens = ps;
      tells = Taken.Nothing ∷ Taken.Nothing ∷ Taken.Event e ∷ [];
      reads = r.reads;
      takes = λ ts stands opens.
          let t = takes later ts ps is stands in record { stands = t.stands; opens = t.opens; told_is = t.tells };
      heard = hears;
    }

-- one after the other
pub more_then : (later : Bool) (w x y : Window) (left : Option (List ℕ)) (r s t : CertReader) (p q v : Pending)
    → HearsMore later w x left r s p q → HearsMore later x y left s t q v → HearsMore later w y left r t p v
more_then later w x y left r s t p q v first second bytes e =
    let m = first bytes e in
    let n = second m.reads.rest m.reads.told in record {
      tokens = m.tokens ++ n.tokens;
      tells = m.tells ++ n.tells;
      reads = reads_join w.at bytes m.tokens n.tokens x.at y.at (coming x left) (coming y left) m.reads n.reads;
      takes = λ ts stands opens.
          let a = m.takes ts stands opens in
          let b = n.takes (ts ++ m.tokens) a.stands a.opens in record {
            stands = subst (λ us. ReaderStands later t us) (append_assoc ts m.tokens n.tokens) b.stands;
            opens = subst (λ us. BeginsSections later us) (append_assoc ts m.tokens n.tokens) b.opens;
            told_is =
                ap (told later) (sym (append_assoc ts m.tokens n.tokens)) ∙ b.told_is
                ∙ ap (λ xs. xs ++ n.tells) a.told_is ∙ append_assoc (told later ts) m.tells n.tells;
          };
      heard = subst (λ es. Hears p v es) (sym (events_append m.tells n.tells))
          (hears_then p q v (events m.tells) (events n.tells) m.heard n.heard);
    }

-- behind the tokens of a section
pub going_more : (later : Bool) (u w x : Window) (a c : Option (List ℕ)) (old reader : CertReader)
    (p q r : Pending) → GoesOn later u a w c old p q → HearsMore later w x c old reader q r
    → GoesOn later u a x c reader p r
going_more later u w x a c old reader p q r g more bytes e =
    let now = g bytes e in
    let m = more now.reads.rest now.reads.told in
    let t = m.takes now.tokens now.stands now.opens in record {
      tokens = now.tokens ++ m.tokens;
      reads = reads_join u.at bytes now.tokens m.tokens w.at x.at (coming w c) (coming x c) now.reads m.reads;
      stands = t.stands;
      opens = t.opens;
      heard = subst (λ es. Hears p r es)
          (sym (ap events t.told_is ∙ events_append (told later now.tokens) m.tells))
          (hears_then p q r (events (told later now.tokens)) (events m.tells) now.heard m.heard);
    }
