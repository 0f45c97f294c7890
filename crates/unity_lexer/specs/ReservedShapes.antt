-- A first test of a word, before it is looked up in the table of reserved words.
use Rattle.std.specs.Prelude.{ℕ, Bool, false, ◌==◌, List, [], ◌∷◌, length, codes, if◌then◌else◌}
use Rattle.std.specs.List.{list_any}

-- one of these bytes
abbrev pub is_one_of : List ℕ → ℕ → Bool
is_one_of bytes b = list_any (λ c. b == c) bytes

-- the length and the first byte are those of some reserved word
abbrev pub has_reserved_shape : ℕ → ℕ → Bool
has_reserved_shape len first =
    if len == 2 then is_one_of (codes "bio") first
    else (if len == 3 then is_one_of (codes "ademnps") first
    else (if len == 4 then is_one_of (codes "cdfqtw") first
    else (if len == 5 then is_one_of (codes "afiprstu") first
    else (if len == 6 then is_one_of (codes "aceisuw") first
    else (if len == 7 then is_one_of (codes "bdelp") first
    else (if len == 8 then is_one_of (codes "cs") first
    else (if len == 9 then is_one_of (codes "is") first
    else (if len == 10 then is_one_of (codes "s") first
    else (if len == 12 then is_one_of (codes "c") first
    else false)))))))))

-- a word that the table may have
abbrev pub may_be_reserved : List ℕ → Bool
may_be_reserved [] = false
may_be_reserved (b ∷ bs) = has_reserved_shape (length (b ∷ bs)) b
