pub mod Images
pub mod ImagesOfParts
