-- Tests in a row, which the code joins from the left and the definitions from the right.
-- It is a law of any tests, since to regroup a function's own in its goal takes long.
use mathlib.Core.Path.{◌≡◌}
use mathlib.Core.Bool.{Bool, ◌&&◌, and_assoc}

module _ (a b c d e f g h i j k : Bool) where
  pub eleven : ((((((((((a && b) && c) && d) && e) && f) && g) && h) && i) && j) && k) ≡ (a && (b && (c && (d && (e && (f && (g && (h && (i && (j && k))))))))))
  eleven = simp and_assoc
