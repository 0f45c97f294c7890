-- Which slots and parameters a tree names.
use Rattle.std.specs.Prelude.{ℕ, ◌+◌, max, nat_eq, Bool, true, false, ◌&&◌, ◌||◌}
use Rattle.core_terms.specs.declared.trees.CTerm.{CTerm, fold-CTerm}
use Rattle.core_terms.specs.declared.trees.CForm.TheOpen.{CTerm-F, CForm-F}
use Rattle.core_terms.specs.declared.trees.CForm.{CForm, fold-CForm}

-- one more than the greatest number of a slot, from those of the parts
abbrev pub slots_step : CTerm-F ℕ ℕ → ℕ
slots_step (CTerm-F.Const c) = 0
slots_step (CTerm-F.Slot n) = n + 1
slots_step (CTerm-F.Param n) = 0
slots_step (CTerm-F.Add a b) = max a b
slots_step (CTerm-F.Sub a b) = max a b
slots_step (CTerm-F.Scale k a) = a
slots_step (CTerm-F.Div a k) = a
slots_step (CTerm-F.Mod a k) = a
slots_step (CTerm-F.Ite c a b) = max c (max a b)

-- one more than the greatest number of a parameter, from those of the parts
abbrev pub params_step : CTerm-F ℕ ℕ → ℕ
params_step (CTerm-F.Const c) = 0
params_step (CTerm-F.Slot n) = 0
params_step (CTerm-F.Param n) = n + 1
params_step (CTerm-F.Add a b) = max a b
params_step (CTerm-F.Sub a b) = max a b
params_step (CTerm-F.Scale k a) = a
params_step (CTerm-F.Div a k) = a
params_step (CTerm-F.Mod a k) = a
params_step (CTerm-F.Ite c a b) = max c (max a b)

-- the greatest of a formula's parts
abbrev pub greatest_part : CForm-F ℕ ℕ → ℕ
greatest_part CForm-F.Top = 0
greatest_part CForm-F.Bottom = 0
greatest_part (CForm-F.AtLeast t) = t
greatest_part (CForm-F.Zero t) = t
greatest_part (CForm-F.Not f) = f
greatest_part (CForm-F.And f g) = max f g
greatest_part (CForm-F.Or f g) = max f g

-- one more than the greatest number of a slot that is named, and 0 where none is
abbrev pub term_slots : CTerm → ℕ
term_slots = fold-CTerm ℕ ℕ greatest_part slots_step

abbrev pub form_slots : CForm → ℕ
form_slots = fold-CForm ℕ ℕ greatest_part slots_step

-- one more than the greatest number of a parameter that is named, and 0 where none is
abbrev pub term_params : CTerm → ℕ
term_params = fold-CTerm ℕ ℕ greatest_part params_step

abbrev pub form_params : CForm → ℕ
form_params = fold-CForm ℕ ℕ greatest_part params_step

-- whether all slots and parameters of a term pass these tests, from whether those of its parts do
abbrev pub only_step : (ℕ → Bool) → (ℕ → Bool) → CTerm-F Bool Bool → Bool
only_step slots params (CTerm-F.Const c) = true
only_step slots params (CTerm-F.Slot n) = slots n
only_step slots params (CTerm-F.Param n) = params n
only_step slots params (CTerm-F.Add a b) = a && b
only_step slots params (CTerm-F.Sub a b) = a && b
only_step slots params (CTerm-F.Scale k a) = a
only_step slots params (CTerm-F.Div a k) = a
only_step slots params (CTerm-F.Mod a k) = a
only_step slots params (CTerm-F.Ite c a b) = c && (a && b)

-- whether all of a formula's do
abbrev pub all_parts : CForm-F Bool Bool → Bool
all_parts CForm-F.Top = true
all_parts CForm-F.Bottom = true
all_parts (CForm-F.AtLeast t) = t
all_parts (CForm-F.Zero t) = t
all_parts (CForm-F.Not f) = f
all_parts (CForm-F.And f g) = f && g
all_parts (CForm-F.Or f g) = f && g

-- whether a term names only slots and only parameters that pass these tests
abbrev pub term_names_only : (ℕ → Bool) → (ℕ → Bool) → CTerm → Bool
term_names_only slots params = fold-CTerm Bool Bool all_parts (only_step slots params)

-- whether a formula names only slots and only parameters that pass these tests
abbrev pub form_names_only : (ℕ → Bool) → (ℕ → Bool) → CForm → Bool
form_names_only slots params = fold-CForm Bool Bool all_parts (only_step slots params)

-- whether the parameter of this number is named, from whether the parts name it
abbrev pub param_step : ℕ → CTerm-F Bool Bool → Bool
param_step n (CTerm-F.Const c) = false
param_step n (CTerm-F.Slot m) = false
param_step n (CTerm-F.Param m) = nat_eq m n
param_step n (CTerm-F.Add a b) = a || b
param_step n (CTerm-F.Sub a b) = a || b
param_step n (CTerm-F.Scale k a) = a
param_step n (CTerm-F.Div a k) = a
param_step n (CTerm-F.Mod a k) = a
param_step n (CTerm-F.Ite c a b) = c || (a || b)

-- whether one of a formula's parts does
abbrev pub some_part : CForm-F Bool Bool → Bool
some_part CForm-F.Top = false
some_part CForm-F.Bottom = false
some_part (CForm-F.AtLeast t) = t
some_part (CForm-F.Zero t) = t
some_part (CForm-F.Not f) = f
some_part (CForm-F.And f g) = f || g
some_part (CForm-F.Or f g) = f || g

-- whether a formula names the parameter of this number
abbrev pub names_param : ℕ → CForm → Bool
names_param n = fold-CForm Bool Bool some_part (param_step n)

-- whether a term names it
abbrev pub term_names_param : ℕ → CTerm → Bool
term_names_param n = fold-CTerm Bool Bool some_part (param_step n)
