-- A text of each production of claims and rules.
use Rattle.std.specs.Prelude.{false, [], ◌∷◌, ◌++◌, Some, None, codes}
use Rattle.case_tables.specs.declared.word_table.Word.{Word}
use Rattle.case_tables.specs.declared.symbol_table.Symbol.{Symbol}
use Rattle.unity_syntax.specs.declared.name.End.{End}
use Rattle.unity_syntax.specs.declared.proof.Claim.{Claim}
use Rattle.unity_syntax.specs.declared.proof.Rule.{Rule}
use Rattle.unity_syntax.specs.declared.document.Part.{Part}
use Rattle.unity_syntax.specs.declared.term.Term.TheVariants as term
use Rattle.examples_definitions.specs.TextForms.{name_token, number_token, reserved_token, symbol_token, name, numbers}
use Rattle.examples_definitions.specs.TextForms.{word, step_of, step_in, parameter, step, between, step_between}
use Rattle.examples_definitions.specs.TextForms.{Example}

-- each production of claims and rules
abbrev pub proof_example : Example
proof_example = record {
  text = codes "unity 1\n"
      ++ codes "proof F\n"
      ++ codes "  safe: defined by text;\n"
      ++ codes "  low: invariant x by text using safe;\n"
      ++ codes "  keep(m : 0..3, n : 0..1): stable x by text using low, safe;\n"
      ++ codes "  up: x unless y by weaken keep[1, 0];\n"
      ++ codes "  next(m : 0..1): x ensures y by text with hop[m, 0];\n"
      ++ codes "  last: x leadsto y by from F.next[m + 1];\n"
      ++ codes "  one: x unless y by conj up up;\n"
      ++ codes "  two: x unless y by simpleconj up F.low;\n"
      ++ codes "  three: x unless y by disj up up;\n"
      ++ codes "  four: x unless y by simpledisj up up;\n"
      ++ codes "  five: x unless y by cancel up up;\n"
      ++ codes "  six: x unless y by union F.up H.up;\n"
      ++ codes "end\n";
  tokens =
      reserved_token Word.Unity 0 5 ∷ number_token 1 6 7 ∷ reserved_token Word.Proof 8 13 ∷ name_token 14 15
      ∷ name_token 18 22 ∷ symbol_token Symbol.Colon 22 23 ∷ reserved_token Word.Defined 24 31
      ∷ reserved_token Word.By 32 34 ∷ reserved_token Word.Text 35 39 ∷ symbol_token Symbol.Semicolon 39 40
      ∷ name_token 43 46 ∷ symbol_token Symbol.Colon 46 47 ∷ reserved_token Word.Invariant 48 57 ∷ name_token 58 59
      ∷ reserved_token Word.By 60 62 ∷ reserved_token Word.Text 63 67 ∷ reserved_token Word.Using 68 73
      ∷ name_token 74 78
      ∷ symbol_token Symbol.Semicolon 78 79 ∷ name_token 82 86 ∷ symbol_token Symbol.OpenParenthesis 86 87
      ∷ name_token 87 88 ∷ symbol_token Symbol.Colon 89 90 ∷ number_token 0 91 92 ∷ symbol_token Symbol.DotDot 92 94
      ∷ number_token 3 94 95 ∷ symbol_token Symbol.Comma 95 96 ∷ name_token 97 98 ∷ symbol_token Symbol.Colon 99 100
      ∷ number_token 0 101 102 ∷ symbol_token Symbol.DotDot 102 104 ∷ number_token 1 104 105
      ∷ symbol_token Symbol.CloseParenthesis 105 106 ∷ symbol_token Symbol.Colon 106 107
      ∷ reserved_token Word.Stable 108 114 ∷ name_token 115 116 ∷ reserved_token Word.By 117 119
      ∷ reserved_token Word.Text 120 124 ∷ reserved_token Word.Using 125 130 ∷ name_token 131 134
      ∷ symbol_token Symbol.Comma 134 135 ∷ name_token 136 140 ∷ symbol_token Symbol.Semicolon 140 141
      ∷ name_token 144 146
      ∷ symbol_token Symbol.Colon 146 147 ∷ name_token 148 149 ∷ reserved_token Word.Unless 150 156 ∷ name_token 157 158
      ∷ reserved_token Word.By 159 161 ∷ reserved_token Word.Weaken 162 168 ∷ name_token 169 173
      ∷ symbol_token Symbol.OpenBracket 173 174 ∷ number_token 1 174 175 ∷ symbol_token Symbol.Comma 175 176
      ∷ number_token 0 177 178 ∷ symbol_token Symbol.CloseBracket 178 179 ∷ symbol_token Symbol.Semicolon 179 180
      ∷ name_token 183 187 ∷ symbol_token Symbol.OpenParenthesis 187 188 ∷ name_token 188 189
      ∷ symbol_token Symbol.Colon 190 191 ∷ number_token 0 192 193 ∷ symbol_token Symbol.DotDot 193 195
      ∷ number_token 1 195 196 ∷ symbol_token Symbol.CloseParenthesis 196 197 ∷ symbol_token Symbol.Colon 197 198
      ∷ name_token 199 200 ∷ reserved_token Word.Ensures 201 208 ∷ name_token 209 210 ∷ reserved_token Word.By 211 213
      ∷ reserved_token Word.Text 214 218 ∷ reserved_token Word.With 219 223 ∷ name_token 224 227
      ∷ symbol_token Symbol.OpenBracket 227 228 ∷ name_token 228 229 ∷ symbol_token Symbol.Comma 229 230
      ∷ number_token 0 231 232 ∷ symbol_token Symbol.CloseBracket 232 233 ∷ symbol_token Symbol.Semicolon 233 234
      ∷ name_token 237 241 ∷ symbol_token Symbol.Colon 241 242 ∷ name_token 243 244
      ∷ reserved_token Word.Leadsto 245 252
      ∷ name_token 253 254 ∷ reserved_token Word.By 255 257 ∷ reserved_token Word.From 258 262 ∷ name_token 263 264
      ∷ symbol_token Symbol.Dot 264 265 ∷ name_token 265 269 ∷ symbol_token Symbol.OpenBracket 269 270
      ∷ name_token 270 271
      ∷ symbol_token Symbol.Plus 272 273 ∷ number_token 1 274 275 ∷ symbol_token Symbol.CloseBracket 275 276
      ∷ symbol_token Symbol.Semicolon 276 277 ∷ name_token 280 283 ∷ symbol_token Symbol.Colon 283 284
      ∷ name_token 285 286
      ∷ reserved_token Word.Unless 287 293 ∷ name_token 294 295 ∷ reserved_token Word.By 296 298
      ∷ reserved_token Word.Conj 299 303 ∷ name_token 304 306 ∷ name_token 307 309
      ∷ symbol_token Symbol.Semicolon 309 310
      ∷ name_token 313 316 ∷ symbol_token Symbol.Colon 316 317 ∷ name_token 318 319 ∷ reserved_token Word.Unless 320 326
      ∷ name_token 327 328 ∷ reserved_token Word.By 329 331 ∷ reserved_token Word.Simpleconj 332 342
      ∷ name_token 343 345
      ∷ name_token 346 347 ∷ symbol_token Symbol.Dot 347 348 ∷ name_token 348 351
      ∷ symbol_token Symbol.Semicolon 351 352
      ∷ name_token 355 360 ∷ symbol_token Symbol.Colon 360 361 ∷ name_token 362 363 ∷ reserved_token Word.Unless 364 370
      ∷ name_token 371 372 ∷ reserved_token Word.By 373 375 ∷ reserved_token Word.Disj 376 380 ∷ name_token 381 383
      ∷ name_token 384 386 ∷ symbol_token Symbol.Semicolon 386 387 ∷ name_token 390 394
      ∷ symbol_token Symbol.Colon 394 395
      ∷ name_token 396 397 ∷ reserved_token Word.Unless 398 404 ∷ name_token 405 406 ∷ reserved_token Word.By 407 409
      ∷ reserved_token Word.Simpledisj 410 420 ∷ name_token 421 423 ∷ name_token 424 426
      ∷ symbol_token Symbol.Semicolon 426 427 ∷ name_token 430 434 ∷ symbol_token Symbol.Colon 434 435
      ∷ name_token 436 437
      ∷ reserved_token Word.Unless 438 444 ∷ name_token 445 446 ∷ reserved_token Word.By 447 449
      ∷ reserved_token Word.Cancel 450 456 ∷ name_token 457 459 ∷ name_token 460 462
      ∷ symbol_token Symbol.Semicolon 462 463
      ∷ name_token 466 469 ∷ symbol_token Symbol.Colon 469 470 ∷ name_token 471 472 ∷ reserved_token Word.Unless 473 479
      ∷ name_token 480 481 ∷ reserved_token Word.By 482 484 ∷ reserved_token Word.Union 485 490 ∷ name_token 491 492
      ∷ symbol_token Symbol.Dot 492 493 ∷ name_token 493 495 ∷ name_token 496 497 ∷ symbol_token Symbol.Dot 497 498
      ∷ name_token 498 500 ∷ symbol_token Symbol.Semicolon 500 501 ∷ reserved_token Word.End 502 505 ∷ [];
  tree = record {
    at = 0;
    number_at = 6;
    number = 1;
    parts = Part.Proof 8
        (record {
          at = 8;
          program = (name 14 "F");
          steps = ((step 18 "safe" (Claim.Defined 24) (Rule.Text 35 None))
              ∷ (record {
                at = 43;
                name = (name 43 "low");
                params = None;
                claim = (Claim.Invariant 48 (word 58 "x"));
                rule = (Rule.Text 63 None);
                using = (Some ((step_of 74 "safe"), []));
              })
              ∷ (record {
                at = 82;
                name = (name 82 "keep");
                params = (Some (
                  (parameter 87 "m" (numbers 91 0 94 3)),
                  ((parameter 97 "n" (numbers 101 0 104 1)) ∷ []),
                ));
                claim = (Claim.Stable 108 (word 115 "x"));
                rule = (Rule.Text 120 None);
                using = (Some ((step_of 131 "low"), ((step_of 136 "safe") ∷ [])));
              })
              ∷ (step_between 144 "up" 148 "x" Word.Unless 157 "y"
              (Rule.Weaken 162
              (record {
                at = 169;
                name = (name 169 "keep");
                step = None;
                args = (Some ((End.Number 174 false 1), ((End.Number 177 false 0) ∷ [])));
              })))
              ∷ (record {
                at = 183;
                name = (name 183 "next");
                params = (Some ((parameter 188 "m" (numbers 192 0 195 1)), []));
                claim = (between 199 "x" Word.Ensures 209 "y");
                rule = (Rule.Text 214
                    (Some
                    (record {
                      at = 224;
                      label = (name 224 "hop");
                      indices = (Some ((End.Word 228 (name 228 "m") None), ((End.Number 231 false 0) ∷ [])));
                    })));
                using = None;
              })
              ∷ (step_between 237 "last" 243 "x" Word.Leadsto 253 "y"
              (Rule.Term 258
              (term.From 258
              (record {
                at = 263;
                name = (name 263 "F");
                step = (Some (name 265 "next"));
                args = (Some ((End.Word 270 (name 270 "m") (Some (Symbol.Plus, 1))), []));
              }))))
              ∷ (step_between 280 "one" 285 "x" Word.Unless 294 "y"
              (Rule.Pair 299 Word.Conj (step_of 304 "up") (step_of 307 "up")))
              ∷ (step_between 313 "two" 318 "x" Word.Unless 327 "y"
              (Rule.Pair 332 Word.Simpleconj (step_of 343 "up") (step_in 346 "F" 348 "low")))
              ∷ (step_between 355 "three" 362 "x" Word.Unless 371 "y"
              (Rule.Pair 376 Word.Disj (step_of 381 "up") (step_of 384 "up")))
              ∷ (step_between 390 "four" 396 "x" Word.Unless 405 "y"
              (Rule.Pair 410 Word.Simpledisj (step_of 421 "up") (step_of 424 "up")))
              ∷ (step_between 430 "five" 436 "x" Word.Unless 445 "y"
              (Rule.Pair 450 Word.Cancel (step_of 457 "up") (step_of 460 "up")))
              ∷ (step_between 466 "six" 471 "x" Word.Unless 480 "y"
              (Rule.Pair 485 Word.Union (step_in 491 "F" 493 "up") (step_in 496 "H" 498 "up")))
              ∷ []);
        })
        ∷ [];
    schedule = None;
    certificates = None;
  };
}
