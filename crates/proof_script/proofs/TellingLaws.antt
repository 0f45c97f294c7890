-- What a judge is told, part by part.
use Rattle.std.proofs.Common.{◌≡◌, ℕ, ◌+◌, ◌<◌, ◌≤◌, List, [], ◌∷◌, ◌++◌, length, map, take, slice_index_or}
use Rattle.std.proofs.Common.{sym, ap, ◌∙◌, subst, append_assoc, append-nil}
use Rattle.std.specs.List.{flat_map}
use Rattle.std.proofs.lemmas.Grind.{flat_map-append}
use Rattle.std.proofs.lemmas.List.{map-append, take_all, take_more}
use Rattle.unity_base.specs.declared.events.CertEvent.{CertEvent}
use Rattle.core_terms.specs.declared.documents.CDocument.{CDocument}
use Rattle.event_judge.specs.declared.judge.Judge.{Judge}
use Rattle.event_judge.specs.Judges.{JudgeStandsFor}
use Rattle.proof_script.specs.Telling.{JudgeIsTold}

pub told-none : (d : CDocument) (a : Judge) → JudgeIsTold d a a []
told-none d a es s = subst (JudgeStandsFor d a) (sym (append-nil es)) s

pub told-so : (d : CDocument) (a b : Judge) (es fs : List CertEvent) → es ≡ fs → JudgeIsTold d a b es →
    JudgeIsTold d a b fs
told-so d a b es fs e f = subst (λ xs. JudgeIsTold d a b xs) e f

pub told-then : (d : CDocument) (a b c : Judge) (es fs : List CertEvent) → JudgeIsTold d a b es →
    JudgeIsTold d b c fs → JudgeIsTold d a c (es ++ fs)
told-then d a b c es fs f g before s =
    subst (JudgeStandsFor d c) (append_assoc before es fs) (g (before ++ es) (f before s))

-- one item more

take-next : {X : Type 0} (xs : List X) (i : ℕ) (x : X) → i < length xs → x ≡ slice_index_or xs i x →
    take (i + 1) xs ≡ take i xs ++ x ∷ []
take-next xs i x h e = take_more xs i x h ∙ ap (λ y. take i xs ++ y ∷ []) (sym e)

pub map-next : {X Y : Type 0} (f : X → Y) (xs : List X) (i : ℕ) (x : X) → i < length xs →
    map f (take i xs) ++ f (slice_index_or xs i x) ∷ [] ≡ map f (take (i + 1) xs)
map-next f xs i x h =
    sym (ap (map f) (take_more xs i x h) ∙ map-append f (take i xs) (slice_index_or xs i x ∷ []))

pub flat-next : {X Y : Type 0} (f : X → List Y) (xs : List X) (i : ℕ) (x : X) → i < length xs →
    x ≡ slice_index_or xs i x → flat_map f (take i xs) ++ f x ≡ flat_map f (take (i + 1) xs)
flat-next f xs i x h e = sym (ap (flat_map f) (take-next xs i x h e) ∙ flat_map-append f (take i xs) (x ∷ [])
    ∙ ap (λ l. flat_map f (take i xs) ++ l) (append-nil (f x)))

-- all items

pub map-all : {X Y : Type 0} (f : X → Y) (xs : List X) (i : ℕ) → length xs ≤ i → map f (take i xs) ≡ map f xs
map-all f xs i h = ap (map f) (take_all i xs h)

pub flat-all : {X Y : Type 0} (f : X → List Y) (xs : List X) (i : ℕ) → length xs ≤ i →
    flat_map f (take i xs) ≡ flat_map f xs
flat-all f xs i h = ap (flat_map f) (take_all i xs h)
