-- The document of the ring.
use Rattle.std.specs.Prelude.{◌-◌, ℕ, nat_eq, cond, List, [], ◌∷◌, ◌++◌, codes, decimal}
use Rattle.std.specs.List.{flat_map}

-- the program: a token at one of the places 0 to L, that begins at L
abbrev pub program_text : List ℕ
program_text =
    codes "unity 1\n"
    ++ codes "program Ring\n"
    ++ codes "declare\n"
    ++ codes "  at : 0..L\n"
    ++ codes "initially\n"
    ++ codes "  at = L\n"
    ++ codes "assign\n"
    ++ codes "  <[] i : 1..L :: pass: at := i - 1 if at = i |>\n"
    ++ codes "  [] wrap: at := L if at = 0\n"
    ++ codes "end\n"

-- its proof: the token comes to 0, and from there to L
abbrev pub proof_text : List ℕ
proof_text =
    codes "proof Ring\n"
    ++ codes "  safe: defined by text;\n"
    ++ codes "  step(m : 1..L): true and at = m ensures (true and at < m) or at = 0 by text with pass[m];\n"
    ++ codes "  goal: true leadsto at = 0 by induct(m : 1..L, at, true, at = 0, from step[m]);\n"
    ++ codes "  home: at = 0 ensures at = L by text with wrap;\n"
    ++ codes "  again: true leadsto at = L by trans(from goal, from home);\n"
    ++ codes "end\n"

-- the byte of a text that stands for a number, `L`
abbrev pub mark : ℕ
mark = 76

-- what stands for a byte of a text with this number
abbrev pub put_for : List ℕ → ℕ → List ℕ
put_for number byte = cond (nat_eq byte mark) number (byte ∷ [])

-- a text with a number in the place of each `L`
abbrev pub with_number : List ℕ → List ℕ → List ℕ
with_number number text = flat_map (put_for number) text

-- the bytes of the ring of n places: L is n - 1
unfoldable pub ring_bytes : ℕ → List ℕ
ring_bytes n = with_number (decimal (n - 1)) (program_text ++ proof_text)
