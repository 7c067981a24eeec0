-- Sums and products that stop at a number: it is enough to stop at the end.
pub use Rattle.cocoon_resolve.proofs.Saturation.{product_left, product_right, reported_again, sum_left, sum_right}
