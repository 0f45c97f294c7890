-- A text of each production of terms, schedules and certificates.
use Rattle.std.specs.Prelude.{true, false, [], ◌∷◌, ◌++◌, Some, None, codes}
use Rattle.case_tables.specs.declared.word_table.Word.{Word}
use Rattle.case_tables.specs.declared.symbol_table.Symbol.{Symbol}
use Rattle.unity_syntax.specs.declared.name.End.{End}
use Rattle.unity_syntax.specs.declared.proof.Rule.{Rule}
use Rattle.unity_syntax.specs.declared.certificate.Node.{Node}
use Rattle.unity_syntax.specs.declared.document.Part.{Part}
use Rattle.unity_syntax.specs.declared.expression.Expr.TheVariants as expr
use Rattle.unity_syntax.specs.declared.term.Term.TheVariants as term
use Rattle.examples_definitions.specs.TextForms.{name_token, number_token, reserved_token, symbol_token, name, numbers}
use Rattle.examples_definitions.specs.TextForms.{word, step_of, step_in, step_between, pair, Example}

-- each production of terms, schedules and certificates
abbrev pub term_example : Example
term_example = record {
  text = codes "unity 1\n"
      ++ codes "proof F\n"
      ++ codes "  one: x leadsto y by trans(from next[0], either(imply(x, true), from F.next));\n"
      ++ codes "  two: x leadsto y by exists(m : 0..1, from next[m]);\n"
      ++ codes "  three: x leadsto y by induct(m : 0..3, x, true, y, psp(from next, up));\n"
      ++ codes "  four: x leadsto y by weaken(true, y, weaken(false, z, from two));\n"
      ++ codes "end\n"
      ++ codes "schedule F: go, hop[1] end\n"
      ++ codes "certificates\n"
      ++ codes "1: case 1 split 2 -3 sum 1*2 -1*3 round -2 1*1 sum round 2 sum 2*2;\n"
      ++ codes "2: sum;\n"
      ++ codes "end\n";
  tokens =
      reserved_token Word.Unity 0 5 ∷ number_token 1 6 7 ∷ reserved_token Word.Proof 8 13 ∷ name_token 14 15
      ∷ name_token 18 21 ∷ symbol_token Symbol.Colon 21 22 ∷ name_token 23 24 ∷ reserved_token Word.Leadsto 25 32
      ∷ name_token 33 34 ∷ reserved_token Word.By 35 37 ∷ reserved_token Word.Trans 38 43
      ∷ symbol_token Symbol.OpenParenthesis 43 44 ∷ reserved_token Word.From 44 48 ∷ name_token 49 53
      ∷ symbol_token Symbol.OpenBracket 53 54 ∷ number_token 0 54 55 ∷ symbol_token Symbol.CloseBracket 55 56
      ∷ symbol_token Symbol.Comma 56 57 ∷ reserved_token Word.Either 58 64 ∷ symbol_token Symbol.OpenParenthesis 64 65
      ∷ reserved_token Word.Imply 65 70 ∷ symbol_token Symbol.OpenParenthesis 70 71 ∷ name_token 71 72
      ∷ symbol_token Symbol.Comma 72 73 ∷ reserved_token Word.True 74 78 ∷ symbol_token Symbol.CloseParenthesis 78 79
      ∷ symbol_token Symbol.Comma 79 80 ∷ reserved_token Word.From 81 85 ∷ name_token 86 87
      ∷ symbol_token Symbol.Dot 87 88
      ∷ name_token 88 92 ∷ symbol_token Symbol.CloseParenthesis 92 93 ∷ symbol_token Symbol.CloseParenthesis 93 94
      ∷ symbol_token Symbol.Semicolon 94 95 ∷ name_token 98 101 ∷ symbol_token Symbol.Colon 101 102 ∷ name_token 103 104
      ∷ reserved_token Word.Leadsto 105 112 ∷ name_token 113 114 ∷ reserved_token Word.By 115 117
      ∷ reserved_token Word.Exists 118 124 ∷ symbol_token Symbol.OpenParenthesis 124 125 ∷ name_token 125 126
      ∷ symbol_token Symbol.Colon 127 128 ∷ number_token 0 129 130 ∷ symbol_token Symbol.DotDot 130 132
      ∷ number_token 1 132 133 ∷ symbol_token Symbol.Comma 133 134 ∷ reserved_token Word.From 135 139
      ∷ name_token 140 144
      ∷ symbol_token Symbol.OpenBracket 144 145 ∷ name_token 145 146 ∷ symbol_token Symbol.CloseBracket 146 147
      ∷ symbol_token Symbol.CloseParenthesis 147 148 ∷ symbol_token Symbol.Semicolon 148 149 ∷ name_token 152 157
      ∷ symbol_token Symbol.Colon 157 158 ∷ name_token 159 160 ∷ reserved_token Word.Leadsto 161 168
      ∷ name_token 169 170
      ∷ reserved_token Word.By 171 173 ∷ reserved_token Word.Induct 174 180
      ∷ symbol_token Symbol.OpenParenthesis 180 181
      ∷ name_token 181 182 ∷ symbol_token Symbol.Colon 183 184 ∷ number_token 0 185 186
      ∷ symbol_token Symbol.DotDot 186 188
      ∷ number_token 3 188 189 ∷ symbol_token Symbol.Comma 189 190 ∷ name_token 191 192
      ∷ symbol_token Symbol.Comma 192 193
      ∷ reserved_token Word.True 194 198 ∷ symbol_token Symbol.Comma 198 199 ∷ name_token 200 201
      ∷ symbol_token Symbol.Comma 201 202 ∷ reserved_token Word.Psp 203 206
      ∷ symbol_token Symbol.OpenParenthesis 206 207
      ∷ reserved_token Word.From 207 211 ∷ name_token 212 216 ∷ symbol_token Symbol.Comma 216 217 ∷ name_token 218 220
      ∷ symbol_token Symbol.CloseParenthesis 220 221 ∷ symbol_token Symbol.CloseParenthesis 221 222
      ∷ symbol_token Symbol.Semicolon 222 223 ∷ name_token 226 230 ∷ symbol_token Symbol.Colon 230 231
      ∷ name_token 232 233
      ∷ reserved_token Word.Leadsto 234 241 ∷ name_token 242 243 ∷ reserved_token Word.By 244 246
      ∷ reserved_token Word.Weaken 247 253 ∷ symbol_token Symbol.OpenParenthesis 253 254
      ∷ reserved_token Word.True 254 258
      ∷ symbol_token Symbol.Comma 258 259 ∷ name_token 260 261 ∷ symbol_token Symbol.Comma 261 262
      ∷ reserved_token Word.Weaken 263 269 ∷ symbol_token Symbol.OpenParenthesis 269 270
      ∷ reserved_token Word.False 270 275
      ∷ symbol_token Symbol.Comma 275 276 ∷ name_token 277 278 ∷ symbol_token Symbol.Comma 278 279
      ∷ reserved_token Word.From 280 284 ∷ name_token 285 288 ∷ symbol_token Symbol.CloseParenthesis 288 289
      ∷ symbol_token Symbol.CloseParenthesis 289 290 ∷ symbol_token Symbol.Semicolon 290 291
      ∷ reserved_token Word.End 292 295 ∷ reserved_token Word.Schedule 296 304 ∷ name_token 305 306
      ∷ symbol_token Symbol.Colon 306 307 ∷ name_token 308 310 ∷ symbol_token Symbol.Comma 310 311 ∷ name_token 312 315
      ∷ symbol_token Symbol.OpenBracket 315 316 ∷ number_token 1 316 317 ∷ symbol_token Symbol.CloseBracket 317 318
      ∷ reserved_token Word.End 319 322 ∷ reserved_token Word.Certificates 323 335 ∷ number_token 1 336 337
      ∷ symbol_token Symbol.Colon 337 338 ∷ reserved_token Word.Case 339 343 ∷ number_token 1 344 345
      ∷ reserved_token Word.Split 346 351 ∷ number_token 2 352 353 ∷ symbol_token Symbol.Minus 354 355
      ∷ number_token 3 355 356 ∷ reserved_token Word.Sum 357 360 ∷ number_token 1 361 362
      ∷ symbol_token Symbol.Times 362 363 ∷ number_token 2 363 364 ∷ symbol_token Symbol.Minus 365 366
      ∷ number_token 1 366 367 ∷ symbol_token Symbol.Times 367 368 ∷ number_token 3 368 369
      ∷ reserved_token Word.Round 370 375 ∷ symbol_token Symbol.Minus 376 377 ∷ number_token 2 377 378
      ∷ number_token 1 379 380 ∷ symbol_token Symbol.Times 380 381 ∷ number_token 1 381 382
      ∷ reserved_token Word.Sum 383 386 ∷ reserved_token Word.Round 387 392 ∷ number_token 2 393 394
      ∷ reserved_token Word.Sum 395 398 ∷ number_token 2 399 400 ∷ symbol_token Symbol.Times 400 401
      ∷ number_token 2 401 402 ∷ symbol_token Symbol.Semicolon 402 403 ∷ number_token 2 404 405
      ∷ symbol_token Symbol.Colon 405 406 ∷ reserved_token Word.Sum 407 410 ∷ symbol_token Symbol.Semicolon 410 411
      ∷ reserved_token Word.End 412 415 ∷ [];
  tree = record {
    at = 0;
    number_at = 6;
    number = 1;
    parts = Part.Proof 8
        (record {
          at = 8;
          program = (name 14 "F");
          steps = ((step_between 18 "one" 23 "x" Word.Leadsto 33 "y"
              (Rule.Term 38
              (term.Pair 38 Word.Trans
              (term.From 44
              (record { at = 49; name = (name 49 "next"); step = None; args = (Some ((End.Number 54 false 0), [])) }))
              (term.Pair 58 Word.Either
              (term.Imply 65 (word 71 "x") (expr.True 74))
              (term.From 81 (step_in 86 "F" 88 "next"))))))
              ∷ (step_between 98 "two" 103 "x" Word.Leadsto 113 "y"
              (Rule.Term 118
              (term.Exists 118 (name 125 "m")
              (numbers 129 0 132 1)
              (term.From 135
              (record {
                at = 140;
                name = (name 140 "next");
                step = None;
                args = (Some ((End.Word 145 (name 145 "m") None), []));
              })))))
              ∷ (step_between 152 "three" 159 "x" Word.Leadsto 169 "y"
              (Rule.Term 174
              (term.Induct 174 (name 181 "m")
              (numbers 185 0 188 3)
              (word 191 "x")
              (expr.True 194)
              (word 200 "y")
              (term.Psp 203
              (term.From 207 (step_of 212 "next"))
              (step_of 218 "up")))))
              ∷ (step_between 226 "four" 232 "x" Word.Leadsto 242 "y"
              (Rule.Term 247
              (term.Weaken 247 (expr.True 254)
              (word 260 "y")
              (term.Weaken 263 (expr.False 270)
              (word 277 "z")
              (term.From 280 (step_of 285 "two"))))))
              ∷ []);
        })
        ∷ [];
    schedule = (Some
        (record {
          at = 296;
          program = (name 305 "F");
          choices = (Some (
            (record { at = 308; label = (name 308 "go"); indices = None }),
            ((record { at = 312; label = (name 312 "hop"); indices = (Some ((End.Number 316 false 1), [])) }) ∷ []),
          ));
        }));
    certificates = (Some
        (record {
          at = 323;
          items = ((record {
            at = 336;
            number = 1;
            first = (Node.Case 339 1);
            rest = ((Node.Split 346 2 true 3)
                ∷ (Node.Sum 357
                ((pair 361 1 2)
                ∷ (record { at = 365; minus = true; multiplier = 1; fact = 3 })
                ∷ []))
                ∷ (Node.Round 370 true 2 ((pair 379 1 1) ∷ []))
                ∷ (Node.Sum 383 [])
                ∷ (Node.Round 387 false 2 [])
                ∷ (Node.Sum 395 ((pair 399 2 2) ∷ []))
                ∷ []);
          })
              ∷ (record { at = 404; number = 2; first = (Node.Sum 407 []); rest = [] })
              ∷ []);
        }));
  };
}
