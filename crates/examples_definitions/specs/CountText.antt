-- The smallest text, and a counter with its proof and its certificates.
use Rattle.std.specs.Prelude.{false, [], ◌∷◌, ◌++◌, Some, None, codes}
use Rattle.case_tables.specs.declared.word_table.Word.{Word}
use Rattle.case_tables.specs.declared.symbol_table.Symbol.{Symbol}
use Rattle.case_tables.specs.declared.symbol_table.Symbol.TheVariants.{Below as below}
use Rattle.unity_syntax.specs.declared.program.Program.{Program}
use Rattle.unity_syntax.specs.declared.proof.Claim.{Claim}
use Rattle.unity_syntax.specs.declared.proof.Rule.{Rule}
use Rattle.unity_syntax.specs.declared.certificate.Node.{Node}
use Rattle.unity_syntax.specs.declared.document.Part.{Part}
use Rattle.unity_syntax.specs.declared.expression.Expr.TheVariants as expr
use Rattle.unity_syntax.specs.declared.statement.Component.TheVariants as component
use Rattle.unity_syntax.specs.declared.statement.Item.TheVariants as item
use Rattle.examples_definitions.specs.TextForms.{name_token, number_token, reserved_token, symbol_token, name, numbers}
use Rattle.examples_definitions.specs.TextForms.{word, variable, target, assign, items, step, pair, Example}

-- no program and no proof
abbrev pub smallest_example : Example
smallest_example = record {
  text = codes "unity 1\n";
  tokens =
      reserved_token Word.Unity 0 5 ∷ number_token 1 6 7 ∷ [];
  tree = record {
    at = 0;
    number_at = 6;
    number = 1;
    parts = [];
    schedule = None;
    certificates = None;
  };
}

-- a counter, its proof and its certificates
abbrev pub count_example : Example
count_example = record {
  text = codes "unity 1\n"
      ++ codes "program Count\n"
      ++ codes "declare\n"
      ++ codes "  x : 0..3\n"
      ++ codes "initially\n"
      ++ codes "  x = 0\n"
      ++ codes "assign\n"
      ++ codes "  inc: x := x + 1 if x < 3\n"
      ++ codes "end\n"
      ++ codes "proof Count\n"
      ++ codes "  safe: defined by text;\n"
      ++ codes "  top: invariant x <= 3 by text;\n"
      ++ codes "end\n"
      ++ codes "certificates\n"
      ++ codes "1: case 1 sum 1*1 1*4 sum 1*3 1*4;\n"
      ++ codes "2: sum 1*2 1*5;\n"
      ++ codes "3: case 1 case 1 sum 1*1 1*5 sum 1*4 1*5 case 1 sum 1*4 1*5 sum 1*2 1*5;\n"
      ++ codes "end\n";
  tokens =
      reserved_token Word.Unity 0 5 ∷ number_token 1 6 7 ∷ reserved_token Word.Program 8 15 ∷ name_token 16 21
      ∷ reserved_token Word.Declare 22 29 ∷ name_token 32 33 ∷ symbol_token Symbol.Colon 34 35 ∷ number_token 0 36 37
      ∷ symbol_token Symbol.DotDot 37 39 ∷ number_token 3 39 40 ∷ reserved_token Word.Initially 41 50 ∷ name_token 53 54
      ∷ symbol_token Symbol.Equal 55 56 ∷ number_token 0 57 58 ∷ reserved_token Word.Assign 59 65 ∷ name_token 68 71
      ∷ symbol_token Symbol.Colon 71 72 ∷ name_token 73 74 ∷ symbol_token Symbol.Assign 75 77 ∷ name_token 78 79
      ∷ symbol_token Symbol.Plus 80 81 ∷ number_token 1 82 83 ∷ reserved_token Word.If 84 86 ∷ name_token 87 88
      ∷ symbol_token below 89 90 ∷ number_token 3 91 92 ∷ reserved_token Word.End 93 96
      ∷ reserved_token Word.Proof 97 102
      ∷ name_token 103 108 ∷ name_token 111 115 ∷ symbol_token Symbol.Colon 115 116
      ∷ reserved_token Word.Defined 117 124
      ∷ reserved_token Word.By 125 127 ∷ reserved_token Word.Text 128 132 ∷ symbol_token Symbol.Semicolon 132 133
      ∷ name_token 136 139 ∷ symbol_token Symbol.Colon 139 140 ∷ reserved_token Word.Invariant 141 150
      ∷ name_token 151 152
      ∷ symbol_token Symbol.AtMost 153 155 ∷ number_token 3 156 157 ∷ reserved_token Word.By 158 160
      ∷ reserved_token Word.Text 161 165 ∷ symbol_token Symbol.Semicolon 165 166 ∷ reserved_token Word.End 167 170
      ∷ reserved_token Word.Certificates 171 183 ∷ number_token 1 184 185 ∷ symbol_token Symbol.Colon 185 186
      ∷ reserved_token Word.Case 187 191 ∷ number_token 1 192 193 ∷ reserved_token Word.Sum 194 197
      ∷ number_token 1 198 199
      ∷ symbol_token Symbol.Times 199 200 ∷ number_token 1 200 201 ∷ number_token 1 202 203
      ∷ symbol_token Symbol.Times 203 204 ∷ number_token 4 204 205 ∷ reserved_token Word.Sum 206 209
      ∷ number_token 1 210 211 ∷ symbol_token Symbol.Times 211 212 ∷ number_token 3 212 213 ∷ number_token 1 214 215
      ∷ symbol_token Symbol.Times 215 216 ∷ number_token 4 216 217 ∷ symbol_token Symbol.Semicolon 217 218
      ∷ number_token 2 219 220 ∷ symbol_token Symbol.Colon 220 221 ∷ reserved_token Word.Sum 222 225
      ∷ number_token 1 226 227 ∷ symbol_token Symbol.Times 227 228 ∷ number_token 2 228 229 ∷ number_token 1 230 231
      ∷ symbol_token Symbol.Times 231 232 ∷ number_token 5 232 233 ∷ symbol_token Symbol.Semicolon 233 234
      ∷ number_token 3 235 236 ∷ symbol_token Symbol.Colon 236 237 ∷ reserved_token Word.Case 238 242
      ∷ number_token 1 243 244 ∷ reserved_token Word.Case 245 249 ∷ number_token 1 250 251
      ∷ reserved_token Word.Sum 252 255
      ∷ number_token 1 256 257 ∷ symbol_token Symbol.Times 257 258 ∷ number_token 1 258 259 ∷ number_token 1 260 261
      ∷ symbol_token Symbol.Times 261 262 ∷ number_token 5 262 263 ∷ reserved_token Word.Sum 264 267
      ∷ number_token 1 268 269 ∷ symbol_token Symbol.Times 269 270 ∷ number_token 4 270 271 ∷ number_token 1 272 273
      ∷ symbol_token Symbol.Times 273 274 ∷ number_token 5 274 275 ∷ reserved_token Word.Case 276 280
      ∷ number_token 1 281 282 ∷ reserved_token Word.Sum 283 286 ∷ number_token 1 287 288
      ∷ symbol_token Symbol.Times 288 289 ∷ number_token 4 289 290 ∷ number_token 1 291 292
      ∷ symbol_token Symbol.Times 292 293 ∷ number_token 5 293 294 ∷ reserved_token Word.Sum 295 298
      ∷ number_token 1 299 300 ∷ symbol_token Symbol.Times 300 301 ∷ number_token 2 301 302 ∷ number_token 1 303 304
      ∷ symbol_token Symbol.Times 304 305 ∷ number_token 5 305 306 ∷ symbol_token Symbol.Semicolon 306 307
      ∷ reserved_token Word.End 308 311 ∷ [];
  tree = record {
    at = 0;
    number_at = 6;
    number = 1;
    parts = Part.Program 8
        (Program.Plain 8 (name 16 "Count")
        (Some ((variable 32 "x" (numbers 36 0 39 3)) ∷ []))
        None
        (Some (record { at = 41; of = (expr.Compare 53 (word 53 "x") Symbol.Equal (expr.Number 57 0)) }))
        None
        (items 68
        (item.Statement 68 (name 68 "inc")
        (assign 73
        (component.Set 73 (target 73 "x") [] (record {
          at = 78;
          values = (record {
            at = 78;
            first = (expr.Sum 78 false (word 78 "x") ((Symbol.Plus, (expr.Number 82 1)) ∷ []));
            rest = [];
          });
          condition = (Some ((expr.Compare 87 (word 87 "x") below (expr.Number 91 3)), []));
        }))
        []))
        []))
        ∷ Part.Proof 97
        (record {
          at = 97;
          program = (name 103 "Count");
          steps = ((step 111 "safe" (Claim.Defined 117) (Rule.Text 128 None))
              ∷ (step 136 "top"
              (Claim.Invariant 141 (expr.Compare 151 (word 151 "x") Symbol.AtMost (expr.Number 156 3)))
              (Rule.Text 161 None))
              ∷ []);
        })
        ∷ [];
    schedule = None;
    certificates = (Some
        (record {
          at = 171;
          items = ((record {
            at = 184;
            number = 1;
            first = (Node.Case 187 1);
            rest = ((Node.Sum 194 ((pair 198 1 1) ∷ (pair 202 1 4) ∷ []))
                ∷ (Node.Sum 206 ((pair 210 1 3) ∷ (pair 214 1 4) ∷ []))
                ∷ []);
          })
              ∷ (record {
                at = 219;
                number = 2;
                first = (Node.Sum 222 ((pair 226 1 2) ∷ (pair 230 1 5) ∷ []));
                rest = [];
              })
              ∷ (record {
                at = 235;
                number = 3;
                first = (Node.Case 238 1);
                rest = ((Node.Case 245 1)
                    ∷ (Node.Sum 252 ((pair 256 1 1) ∷ (pair 260 1 5) ∷ []))
                    ∷ (Node.Sum 264 ((pair 268 1 4) ∷ (pair 272 1 5) ∷ []))
                    ∷ (Node.Case 276 1)
                    ∷ (Node.Sum 283 ((pair 287 1 4) ∷ (pair 291 1 5) ∷ []))
                    ∷ (Node.Sum 295 ((pair 299 1 2) ∷ (pair 303 1 5) ∷ []))
                    ∷ []);
              })
              ∷ []);
        }));
  };
}
