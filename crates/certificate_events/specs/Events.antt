-- What the tokens of certificates tell, from the trees that they are: something of each token, in their order.
use Rattle.std.specs.Prelude.{◌^◌, ℕ, min, ℤ, pos, neg_ℤ, Bool, true, false, List, [], ◌∷◌, ◌++◌, map}
use Rattle.std.specs.List.{flat_map}
use Rattle.unity_base.specs.declared.events.CertEvent.{CertEvent}
use Rattle.unity_syntax.specs.declared.certificate.Pair.{Pair as WrittenPair}
use Rattle.unity_syntax.specs.declared.certificate.Node.{Node}
use Rattle.unity_syntax.specs.declared.certificate.CertText.{CertText}
use Rattle.unity_syntax.specs.declared.certificate.Certificates.{Certificates}
use Rattle.certificate_events.specs.declared.reader.Taken.{Taken}

-- a number with its sign; no number of a text is past 2^62
abbrev pub number_of : Bool → ℕ → ℤ
number_of false n = pos (min n (2 ^ 62))
number_of true n = neg_ℤ (pos (min n (2 ^ 62)))

-- a minus, where there is one
abbrev pub minus_takes : Bool → List Taken
minus_takes false = []
minus_takes true = Taken.Nothing ∷ []

-- a multiplier, `*` and a number
abbrev pub pair_takes : WrittenPair → List Taken
pair_takes p = minus_takes p.minus ++
    (Taken.Nothing ∷ Taken.Nothing ∷ Taken.Event (CertEvent.Pair (number_of p.minus p.multiplier) p.fact) ∷ [])

-- a number with a sign, which tells this
abbrev pub number_takes : Bool → CertEvent → List Taken
number_takes minus event = minus_takes minus ++ (Taken.Event event ∷ [])

-- a node: its word, its numbers and its pairs
abbrev pub node_takes : Node → List Taken
node_takes (Node.Case at k) = Taken.Nothing ∷ Taken.Event (CertEvent.Case k) ∷ []
node_takes (Node.Split at v minus b) =
    Taken.Nothing ∷ Taken.Nothing ∷ number_takes minus (CertEvent.Split v (number_of minus b))
node_takes (Node.Sum at ps) = Taken.Event CertEvent.Sum ∷ flat_map pair_takes ps
node_takes (Node.Round at minus d ps) =
    Taken.Nothing ∷ (number_takes minus (CertEvent.Round (number_of minus d)) ++ flat_map pair_takes ps)
node_takes (Node.Quot at k) = Taken.Nothing ∷ Taken.Event (CertEvent.Quot k) ∷ []
node_takes (Node.Share at minus c ps) =
    Taken.Nothing ∷ (number_takes minus (CertEvent.Share (number_of minus c)) ++ flat_map pair_takes ps)

-- a certificate: its number, a colon, its nodes and a semicolon
abbrev pub certificate_takes : CertText → List Taken
certificate_takes c = Taken.Nothing ∷ Taken.Event CertEvent.Begin ∷
    (flat_map node_takes (c.first ∷ c.rest) ++ (Taken.Event CertEvent.End ∷ []))

-- a section, behind its first word
abbrev pub section_takes : Certificates → List Taken
section_takes c = flat_map certificate_takes c.items ++ (Taken.Event CertEvent.Last ∷ [])

-- The events alone.

abbrev pub events : List Taken → List CertEvent
events [] = []
events (Taken.Nothing ∷ xs) = events xs
events (Taken.Event e ∷ xs) = e ∷ events xs
events (Taken.Unexpected ∷ xs) = events xs

abbrev pub pair_event : WrittenPair → CertEvent
pair_event p = CertEvent.Pair (number_of p.minus p.multiplier) p.fact

abbrev pub node_events : Node → List CertEvent
node_events (Node.Case at k) = CertEvent.Case k ∷ []
node_events (Node.Split at v minus b) = CertEvent.Split v (number_of minus b) ∷ []
node_events (Node.Sum at ps) = CertEvent.Sum ∷ map pair_event ps
node_events (Node.Round at minus d ps) = CertEvent.Round (number_of minus d) ∷ map pair_event ps
node_events (Node.Quot at k) = CertEvent.Quot k ∷ []
node_events (Node.Share at minus c ps) = CertEvent.Share (number_of minus c) ∷ map pair_event ps

abbrev pub certificate_events : CertText → List CertEvent
certificate_events c = CertEvent.Begin ∷ (flat_map node_events (c.first ∷ c.rest) ++ (CertEvent.End ∷ []))

abbrev pub section_events : Certificates → List CertEvent
section_events c = flat_map certificate_events c.items ++ (CertEvent.Last ∷ [])
