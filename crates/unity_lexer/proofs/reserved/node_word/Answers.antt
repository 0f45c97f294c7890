use Rattle.std.proofs.Common.{◌≡◌, ℕ, List, Contains, codes, rules, arith, refl, sym, subst}
use Rattle.case_tables.specs.declared.word_table.Word.{Word}
use Rattle.case_tables.specs.TableRows.{word_rows}
use Rattle.unity_lexer.proofs.reserved.node_word.Goals as goal

-- a word that is spelled as one of the table
spelled : (name : List ℕ) (reserved : Word) → Contains word_rows (name, reserved) → (word : List ℕ) → word ≡ name →
    Contains word_rows (word, reserved)
spelled name reserved h word e = subst (λ w. Contains word_rows (w, reserved)) (sym e) h

pub returns-then-eq : goal.returns-then-eq
returns-then-eq c =
    let same : c.args.word.now ≡ codes "sum" = search rules in
    spelled (codes "sum") Word.Sum (22, omega arith, refl) c.args.word.now same

pub returns-then-eq-2 : goal.returns-then-eq-2
returns-then-eq-2 c =
    let same : c.args.word.now ≡ codes "round" = search rules in
    spelled (codes "round") Word.Round (49, omega arith, refl) c.args.word.now same

pub returns-then-eq-3 : goal.returns-then-eq-3
returns-then-eq-3 c =
    let same : c.args.word.now ≡ codes "split" = search rules in
    spelled (codes "split") Word.Split (48, omega arith, refl) c.args.word.now same

pub returns-then-eq-4 : goal.returns-then-eq-4
returns-then-eq-4 c =
    let same : c.args.word.now ≡ codes "case" = search rules in
    spelled (codes "case") Word.Case (47, omega arith, refl) c.args.word.now same
