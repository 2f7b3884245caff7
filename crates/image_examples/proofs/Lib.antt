mod Worked
mod BlobImages
mod WorkedImages
