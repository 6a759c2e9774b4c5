mod Selection
mod MaskBits
