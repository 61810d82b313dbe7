-- What the operations of the language are on readings.
use Rattle.std.specs.Prelude.{Bool, true, false, ◌||◌, if◌then◌else◌, negsuc, [], length, nat_eq}
use Rattle.hopf_num.specs.Fractions.{Ratio, reciprocal}
use Rattle.realisations.specs.Readings.{Reading, product, tensor, sum_of, multiple, kinds_of, numerator, denominator}
use Rattle.hopf_ops.specs.declared.operator.Operator.{Operator}
use Rattle.hopf_ops.specs.declared.operator.Operator.TheVariants.{Plus, Minus, Hash, Times, Over}

abbrev pub negative : Reading → Reading
negative a = multiple (negsuc 0) 1 a

abbrev pub difference : Reading → Reading → Reading
difference a b = sum_of a (negative b)

-- the difference, or else the sum
abbrev pub sum_or_difference : Bool → Reading → Reading → Reading
sum_or_difference true a b = difference a b
sum_or_difference false a b = sum_of a b

-- a scalar has no component
abbrev pub is_scalar : Reading → Bool
is_scalar a = nat_eq (length (kinds_of a)) 0

-- a product with a scalar is the tensor product; other readings multiply component by component
abbrev pub product_or_tensor : Reading → Reading → Reading
product_or_tensor a b = if is_scalar a || is_scalar b then tensor a b else product a b

-- the number that a scalar is
abbrev pub ratio : Reading → Ratio
ratio a = record { num = numerator a []; den = denominator a }

-- the quotient by a scalar: the multiple by its reciprocal
abbrev pub quotient : Reading → Reading → Reading
quotient a b = multiple (reciprocal (ratio b)).num (reciprocal (ratio b)).den a

-- two readings combined by an operator
abbrev pub combined : Operator → Reading → Reading → Reading
combined Plus a b = sum_of a b
combined Minus a b = difference a b
combined Hash a b = tensor a b
combined Times a b = product_or_tensor a b
combined Over a b = quotient a b
