-- The texts of lists, item by item, as they are put.
use Rattle.std.proofs.Common.{◌≡◌, ℕ, zero, suc, ◌+◌, ◌<◌, ℤ, false, List, [], ◌∷◌, ◌++◌, codes, length, take, get_or}
use Rattle.std.proofs.Common.{refl, sym, ap, ◌∙◌, arith, append_assoc, append-nil}
use Rattle.std.specs.Bool.{◌==◌}
use Rattle.std.specs.List.{flat_map}
use Rattle.obligations.specs.declared.branches.Variable.{Variable}
use Rattle.solver_scripts.specs.Naming.{Naming}
use Rattle.solver_scripts.specs.Terms.{IntTerm, BoolTerm, symbol_text, int_text, bool_text}
use Rattle.solver_scripts.specs.Forms.{constant}
use Rattle.solver_scripts.specs.Scripts.{range_terms, parts_text, conjunction_text}

flat_map_next : {X Y : Type 0} (f : X → List Y) (xs : List X) (i : ℕ) (d : X) → i < length xs →
    flat_map f (take i xs) ++ f (get_or xs i d) ≡ flat_map f (take (suc i) xs)
flat_map_next f [] i d h = absurd (omega arith)
flat_map_next f (x ∷ xs) zero d h = sym (append-nil (f x))
flat_map_next f (x ∷ xs) (suc i) d h =
    append_assoc (f x) (flat_map f (take i xs)) (f (get_or xs i d))
    ∙ ap (λ t. f x ++ t) (flat_map_next f xs i d (omega arith))

-- what the first items give, and the next one
pub flat_map_more : {X Y : Type 0} (f : X → List Y) (xs : List X) (i : ℕ) (d : X) → i < length xs →
    flat_map f (take i xs) ++ f (get_or xs i d) ≡ flat_map f (take (i + 1) xs)
flat_map_more f xs i d h =
    let one : suc i ≡ i + 1 = omega arith in
    flat_map_next f xs i d h ∙ ap (λ k. flat_map f (take k xs)) one

parts_both : (s t : List BoolTerm) → parts_text s ++ parts_text t ≡ parts_text (s ++ t)
parts_both [] t = refl
parts_both (x ∷ s) t =
    append_assoc (codes " " ++ bool_text x) (parts_text s) (parts_text t)
    ∙ ap (λ p. codes " " ++ bool_text x ++ p) (parts_both s t)

-- the same of the ranges
pub ranges_more : (name : Naming) (vs : List Variable) (i : ℕ) (d : Variable) → i < length vs →
    parts_text (flat_map (range_terms name) (take i vs)) ++ parts_text (range_terms name (get_or vs i d))
    ≡ parts_text (flat_map (range_terms name) (take (i + 1) vs))
ranges_more name vs i d h =
    parts_both (flat_map (range_terms name) (take i vs)) (range_terms name (get_or vs i d))
    ∙ ap parts_text (flat_map_more (range_terms name) vs i d h)

-- that a number of this symbol lies between two ends
abbrev pub range_text : List ℕ → ℤ → ℤ → List ℕ
range_text s lo hi =
    parts_text (BoolTerm.at_most (constant lo) (IntTerm.symbol s)
    ∷ BoolTerm.at_most (IntTerm.symbol s) (constant hi) ∷ [])

two_parts : (x y : List ℕ) → codes " (<= " ++ (x ++ (codes ") (<= " ++ y)) ≡
    (codes " (<= " ++ (x ++ codes ")")) ++ ((codes " (<= " ++ y) ++ [])
two_parts x y =
    ap (λ r. codes " (<= " ++ r)
    (ap (λ r. x ++ (codes ") (<= " ++ r)) (sym (append-nil y))
    ∙ sym (append_assoc x (codes ")") (codes " (<= " ++ (y ++ []))))

-- the same as it is put
pub range_is : (s : List ℕ) (lo hi low high : ℤ) → low ≡ lo → high ≡ hi →
    codes " (<= " ++ ((int_text (constant low) ++ codes " " ++ symbol_text s)
    ++ (codes ") (<= " ++ (symbol_text s ++ codes " " ++ int_text (constant high) ++ codes ")"))) ≡
    range_text s lo hi
range_is s lo hi low high e f =
    two_parts (int_text (constant low) ++ codes " " ++ symbol_text s)
    (symbol_text s ++ codes " " ++ int_text (constant high) ++ codes ")")
    ∙ ap (λ z. range_text s z high) e ∙ ap (λ z. range_text s lo z) f

-- where there are variables, there are parts
pub some_parts : (name : Naming) (vs : List Variable) → (length vs == 0) ≡ false →
    codes "(and" ++ parts_text (flat_map (range_terms name) vs) ++ codes ")"
    ≡ conjunction_text (flat_map (range_terms name) vs)
some_parts name [] h = cc
some_parts name (v ∷ vs) h = refl
