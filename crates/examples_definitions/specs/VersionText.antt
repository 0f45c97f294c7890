-- A text of each production that version 2 adds.
use Rattle.std.specs.Prelude.{true, [], ◌∷◌, ◌++◌, Some, None, codes}
use Rattle.case_tables.specs.declared.word_table.Word.{Word}
use Rattle.case_tables.specs.declared.symbol_table.Symbol.{Symbol}
use Rattle.unity_syntax.specs.declared.expression.Operator.{Operator}
use Rattle.unity_syntax.specs.declared.program.Program.{Program}
use Rattle.unity_syntax.specs.declared.proof.Claim.{Claim}
use Rattle.unity_syntax.specs.declared.proof.Rule.{Rule}
use Rattle.unity_syntax.specs.declared.certificate.Node.{Node}
use Rattle.unity_syntax.specs.declared.document.Part.{Part}
use Rattle.unity_syntax.specs.declared.expression.Expr.TheVariants as expr
use Rattle.examples_definitions.specs.TextForms.{name_token, number_token, reserved_token, symbol_token, name, word}
use Rattle.examples_definitions.specs.TextForms.{set, items, step_of, step_in, step, step_between, pair, Example}

-- each production that version 2 adds
abbrev pub second_version : Example
second_version = record {
  text = codes "unity 2\n"
      ++ codes "program F\n"
      ++ codes "always\n"
      ++ codes "  e = 7 div 2 * x mod 3\n"
      ++ codes "assign\n"
      ++ codes "  go: x := x\n"
      ++ codes "end\n"
      ++ codes "proof F\n"
      ++ codes "  a: constant x by constant b F.c;\n"
      ++ codes "  b: fixed x by superpose G.d;\n"
      ++ codes "  c: x until y by until a b;\n"
      ++ codes "  d: x detects y by detects a b;\n"
      ++ codes "  f: x leadsto y by complete a F.b c d;\n"
      ++ codes "end\n"
      ++ codes "certificates\n"
      ++ codes "1: share -2 3*4 quot 5 sum sum;\n"
      ++ codes "end\n";
  tokens =
      reserved_token Word.Unity 0 5 ∷ number_token 2 6 7 ∷ reserved_token Word.Program 8 15 ∷ name_token 16 17
      ∷ reserved_token Word.Always 18 24 ∷ name_token 27 28 ∷ symbol_token Symbol.Equal 29 30
      ∷ number_token 7 31 32 ∷ reserved_token Word.Div 33 36 ∷ number_token 2 37 38
      ∷ symbol_token Symbol.Times 39 40 ∷ name_token 41 42 ∷ reserved_token Word.Mod 43 46 ∷ number_token 3 47 48
      ∷ reserved_token Word.Assign 49 55 ∷ name_token 58 60 ∷ symbol_token Symbol.Colon 60 61 ∷ name_token 62 63
      ∷ symbol_token Symbol.Assign 64 66 ∷ name_token 67 68 ∷ reserved_token Word.End 69 72
      ∷ reserved_token Word.Proof 73 78 ∷ name_token 79 80 ∷ name_token 83 84 ∷ symbol_token Symbol.Colon 84 85
      ∷ reserved_token Word.Constant 86 94 ∷ name_token 95 96 ∷ reserved_token Word.By 97 99
      ∷ reserved_token Word.Constant 100 108 ∷ name_token 109 110 ∷ name_token 111 112
      ∷ symbol_token Symbol.Dot 112 113 ∷ name_token 113 114 ∷ symbol_token Symbol.Semicolon 114 115
      ∷ name_token 118 119 ∷ symbol_token Symbol.Colon 119 120 ∷ reserved_token Word.Fixed 121 126
      ∷ name_token 127 128 ∷ reserved_token Word.By 129 131 ∷ reserved_token Word.Superpose 132 141
      ∷ name_token 142 143 ∷ symbol_token Symbol.Dot 143 144 ∷ name_token 144 145
      ∷ symbol_token Symbol.Semicolon 145 146 ∷ name_token 149 150 ∷ symbol_token Symbol.Colon 150 151
      ∷ name_token 152 153 ∷ reserved_token Word.Until 154 159 ∷ name_token 160 161
      ∷ reserved_token Word.By 162 164 ∷ reserved_token Word.Until 165 170 ∷ name_token 171 172
      ∷ name_token 173 174 ∷ symbol_token Symbol.Semicolon 174 175 ∷ name_token 178 179
      ∷ symbol_token Symbol.Colon 179 180 ∷ name_token 181 182 ∷ reserved_token Word.Detects 183 190
      ∷ name_token 191 192 ∷ reserved_token Word.By 193 195 ∷ reserved_token Word.Detects 196 203
      ∷ name_token 204 205 ∷ name_token 206 207 ∷ symbol_token Symbol.Semicolon 207 208 ∷ name_token 211 212
      ∷ symbol_token Symbol.Colon 212 213 ∷ name_token 214 215 ∷ reserved_token Word.Leadsto 216 223
      ∷ name_token 224 225 ∷ reserved_token Word.By 226 228 ∷ reserved_token Word.Complete 229 237
      ∷ name_token 238 239 ∷ name_token 240 241 ∷ symbol_token Symbol.Dot 241 242 ∷ name_token 242 243
      ∷ name_token 244 245 ∷ name_token 246 247 ∷ symbol_token Symbol.Semicolon 247 248
      ∷ reserved_token Word.End 249 252 ∷ reserved_token Word.Certificates 253 265 ∷ number_token 1 266 267
      ∷ symbol_token Symbol.Colon 267 268 ∷ reserved_token Word.Share 269 274 ∷ symbol_token Symbol.Minus 275 276
      ∷ number_token 2 276 277 ∷ number_token 3 278 279 ∷ symbol_token Symbol.Times 279 280
      ∷ number_token 4 280 281 ∷ reserved_token Word.Quot 282 286 ∷ number_token 5 287 288
      ∷ reserved_token Word.Sum 289 292 ∷ reserved_token Word.Sum 293 296 ∷ symbol_token Symbol.Semicolon 296 297
      ∷ reserved_token Word.End 298 301 ∷ [];
  tree = record {
    at = 0;
    number_at = 6;
    number = 2;
    parts = Part.Program 8
        (Program.Plain 8 (name 16 "F")
        None
        (Some
        ((record {
          at = 27;
          name = (name 27 "e");
          of = (expr.Product 31 (expr.Number 31 7)
              ((Operator.Div, (expr.Number 37 2))
              ∷ (Operator.Times, (word 41 "x"))
              ∷ (Operator.Mod, (expr.Number 47 3))
              ∷ []));
        })
        ∷ []))
        None
        None
        (items 58 (set 58 "go" 62 "x" 67 (word 67 "x")) []))
        ∷ Part.Proof 73
        (record {
          at = 73;
          program = (name 79 "F");
          steps = ((step 83 "a" (Claim.Constant 86 (word 95 "x"))
              (Rule.Pair 100 Word.Constant (step_of 109 "b") (step_in 111 "F" 113 "c")))
              ∷ (step 118 "b" (Claim.Fixed 121 (word 127 "x")) (Rule.Superpose 132 (step_in 142 "G" 144 "d")))
              ∷ (step_between 149 "c" 152 "x" Word.Until 160 "y"
              (Rule.Pair 165 Word.Until (step_of 171 "a") (step_of 173 "b")))
              ∷ (step_between 178 "d" 181 "x" Word.Detects 191 "y"
              (Rule.Pair 196 Word.Detects (step_of 204 "a") (step_of 206 "b")))
              ∷ (step_between 211 "f" 214 "x" Word.Leadsto 224 "y"
              (Rule.Complete 229 (step_of 238 "a") (step_in 240 "F" 242 "b") (step_of 244 "c") (step_of 246 "d")))
              ∷ []);
        })
        ∷ [];
    schedule = None;
    certificates = (Some
        (record {
          at = 253;
          items = ((record {
            at = 266;
            number = 1;
            first = (Node.Share 269 true 2 ((pair 278 3 4) ∷ []));
            rest = ((Node.Quot 282 5) ∷ (Node.Sum 289 []) ∷ (Node.Sum 293 []) ∷ []);
          })
              ∷ []);
        }));
  };
}
