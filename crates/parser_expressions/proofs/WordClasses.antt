-- Two reserved words are the same where their classes are, and only a symbol has the class of a symbol.
use Rattle.std.proofs.Common.{◌≡◌, ◌≢◌, ◌+◌, ◌<◌, ℕ, Bool, true, false, not, cond, eqb, ◌||◌, ◌&&◌}
use Rattle.std.proofs.Common.{refl, sym, ap, arith, eqb-true, eq-eqb}
use Rattle.case_tables.specs.declared.word_table.Word.{Word}
use Rattle.case_tables.specs.declared.symbol_table.Symbol.{Symbol}
use Rattle.case_tables.specs.contracts.word_table.WordPartialEq.TheImpl.{ghosts as words}
use Rattle.case_tables.specs.contracts.word_table.Word.{the_type}
use denote.Enum.Bare.{tag_one, same_true, same_false}
use denote.Enum.Declared.{tag_of}
use Rattle.unity_syntax.specs.Classes.{reserved, symbol, is_later, later_class, class_of_reserved, class_of}
use Rattle.unity_syntax.specs.declared.token.TokenKind.{TokenKind}
use Rattle.unity_syntax.proofs.ClassLaws.{kind_of_symbol}

-- words are numbered in their order
number : (w : Word) → reserved w ≡ 2 + tag_of the_type w
number Word.Unity = refl
number Word.Program = refl
number Word.Declare = refl
number Word.Always = refl
number Word.Initially = refl
number Word.Start = refl
number Word.Assign = refl
number Word.End = refl
number Word.Proof = refl
number Word.Schedule = refl
number Word.Certificates = refl
number Word.Boolean = refl
number Word.Array = refl
number Word.Of = refl
number Word.If = refl
number Word.And = refl
number Word.Or = refl
number Word.Not = refl
number Word.True = refl
number Word.False = refl
number Word.All = refl
number Word.Any = refl
number Word.Sum = refl
number Word.Defined = refl
number Word.Invariant = refl
number Word.Unless = refl
number Word.Stable = refl
number Word.Ensures = refl
number Word.Leadsto = refl
number Word.By = refl
number Word.Using = refl
number Word.With = refl
number Word.Text = refl
number Word.Weaken = refl
number Word.Conj = refl
number Word.Simpleconj = refl
number Word.Disj = refl
number Word.Simpledisj = refl
number Word.Cancel = refl
number Word.From = refl
number Word.Union = refl
number Word.Imply = refl
number Word.Trans = refl
number Word.Either = refl
number Word.Exists = refl
number Word.Induct = refl
number Word.Psp = refl
number Word.Case = refl
number Word.Split = refl
number Word.Round = refl
number Word.Div = refl
number Word.Mod = refl
number Word.Quot = refl
number Word.Share = refl
number Word.Until = refl
number Word.Detects = refl
number Word.Constant = refl
number Word.Complete = refl
number Word.Superpose = refl
number Word.Fixed = refl

differs : (a b : ℕ) → a ≢ b → eqb a b ≡ false
differs a b h = go (eqb a b) refl
  where
    go : (v : Bool) → eqb a b ≡ v → v ≡ false
    go true q = absurd (h (eqb-true a b q))
    go false q = refl

same_class : (a b : Word) → reserved b ≡ reserved a → a ≡ b
same_class a b e = let m = number a in let n = number b in tag_one the_type tt a b (omega arith)

pub same_word : (a b : Word) → words.eq a b ≡ (eqb (reserved b) (reserved a) || false)
same_word a b = go (words.eq a b) refl
  where
    go : (v : Bool) → words.eq a b ≡ v → v ≡ (eqb (reserved b) (reserved a) || false)
    go true q = let e : reserved b ≡ reserved a = ap reserved (sym (same_true the_type tt a b q)) in sym
        (ap (λ v. v || false) (eq-eqb (reserved b) (reserved a) e))
    go false q = sym (ap (λ v. v || false) (differs (reserved b) (reserved a)
        (λ e. same_false the_type a b q (same_class a b e))))

below : (w : Word) → reserved w < later_class
below Word.Unity = omega arith
below w = omega arith

-- a word that stands in the text has its own class there, and another has that of no word
abbrev class_in : Bool → Bool → Word → ℕ
class_in later is a = cond (is && not later) later_class (reserved a)

pub stands_as : (later : Bool) (a b : Word) → (later || not (is_later a)) ≡ true → words.eq a b ≡
    (eqb (reserved b) (class_of_reserved later a) || false)
stands_as later a b = go later (is_later a)
  where
    go : (later is : Bool) → (later || not is) ≡ true → words.eq a b ≡ (eqb (reserved b) (class_in later is a) || false)
    go later false h = same_word a b
    go true true h = same_word a b
    go false true h = cc

pub stands_not : (later : Bool) (a b : Word) → (later || not (is_later a)) ≡ false → false ≡
    (eqb (reserved b) (class_of_reserved later a) || false)
stands_not later a b = go later (is_later a)
  where
    go : (later is : Bool) → (later || not is) ≡ false → false ≡ (eqb (reserved b) (class_in later is a) || false)
    go true is h = cc
    go false false h = cc
    go false true h = let less = below b in sym (ap (λ v. v || false) (differs (reserved b) later_class
        (λ e. absurd (omega (arith, less, e)))))

pub no_symbol : (later : Bool) (k : TokenKind) (s : Symbol) → ((t : Symbol) → k ≢ TokenKind.Symbol t) → false ≡
    (eqb (symbol s) (class_of later k) || false)
no_symbol later k s h = sym (ap (λ v. v || false) (differs (symbol s) (class_of later k)
    (λ e. h s (kind_of_symbol later k s (sym e)))))
