-- A word that is taken where it is new.
use Rattle.std.proofs.Common.{◌≡◌, ℕ, Bool, false, not, List, [], ◌∷◌, ◌++◌, map, Bor, Result, Ok, Err}
use Rattle.std.proofs.Common.{ap, subst, ◌∙◌}
use Rattle.std.specs.List.{list_any}
use Rattle.std.specs.Str.{bytes_eq}
use Rattle.indexmap.specs.IndexSet.{insert_key}
use Rattle.case_tables.specs.declared.code_table.Code.{Code}
use Rattle.unity_syntax.specs.declared.name.Name.{Name}
use Rattle.names_rules.specs.declared.named.NameFault.{NameFault}
use Rattle.names_rules.specs.Reading.{unless}
use Rattle.names_rules.specs.Answers.{Demands, Stops}
use Rattle.names_rules.proofs.Lookups.{keys_any, inserted_key}
use Rattle.names_rules.proofs.Steps.{is_absent}
use Rattle.names_checks.specs.Takes.{Takes}

abbrev texts : List (Bor (List ℕ)) → List (List ℕ)
texts ks = map (λ (k : Bor (List ℕ)). k.now) ks

taken_as : (result : Result (Unit {0}) NameFault) (ks more : List (Bor (List ℕ))) (k : Bor (List ℕ)) (name : Name)
    (is_new : Bool) →
    k.now ≡ name.text → is_new ≡ not (list_any (bytes_eq k.now) (texts ks)) →
    more ≡ insert_key (λ (j k : Bor (List ℕ)). bytes_eq j.now k.now) ks k →
    Demands result (unless is_new Code.DeclaredTwice name.at) → Takes result (texts ks) (texts more) name
taken_as (Ok t) ks more k name is_new e h w d =
    let free : list_any (bytes_eq k.now) (texts ks) ≡ false =
    is_absent is_new _ Code.DeclaredTwice name.at h d in (
      subst (λ (y : List ℕ). list_any (bytes_eq y) (texts ks) ≡ false) e free,
      ap texts w ∙ inserted_key ks k free ∙ ap (λ (y : List ℕ). texts ks ++ y ∷ []) e,
    )
taken_as (Err f) ks more k name is_new e h w d =
    subst (λ (y : List ℕ). Stops f (unless (not (list_any (bytes_eq y) (texts ks))) Code.DeclaredTwice name.at)) e
    (subst (λ (b : Bool). Stops f (unless b Code.DeclaredTwice name.at)) h d)

pub taken : (result : Result (Unit {0}) NameFault) (ks more : List (Bor (List ℕ))) (k : Bor (List ℕ)) (name : Name)
    (is_new : Bool) →
    k.now ≡ name.text → is_new ≡ not (list_any (λ (j : Bor (List ℕ)). bytes_eq k.now j.now) ks) →
    more ≡ insert_key (λ (j k : Bor (List ℕ)). bytes_eq j.now k.now) ks k →
    Demands result (unless is_new Code.DeclaredTwice name.at) → Takes result (texts ks) (texts more) name
taken result ks more k name is_new e h w d =
    taken_as result ks more k name is_new e (h ∙ ap not (keys_any (bytes_eq k.now) ks)) w d
